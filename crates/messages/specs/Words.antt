-- The words of phases in scripts and output. Assumes nothing.
use Rattle.std.specs.Prelude.{ℕ, List, codes}
use Rattle.messages.specs.declared.message.Phase.{Phase}
use Rattle.messages.specs.declared.message.Phase.TheVariants.{Send, Echo, Ready}

abbrev pub phase_word : Phase → List ℕ
phase_word Send = codes "send"
phase_word Echo = codes "echo"
phase_word Ready = codes "ready"
