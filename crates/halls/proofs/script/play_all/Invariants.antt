-- What is written and what is printed of the lines that are left are the whole.
use Rattle.std.proofs.Common.{◌≡◌, ◌+◌, ◌≤◌, ◌++◌, length, string_bytes}
use Rattle.text.specs.Lines.{lines}
use Rattle.halls.specs.Scripts.{scene_in, printed_from, script_printed}
use Rattle.halls.proofs.script.play_all.Given as goal

abbrev pub invariant-loop-line : goal.invariant-loop-line
invariant-loop-line l =
    (string_bytes l.out ++ printed_from l.number (scene_in l.player.hall) (lines l.rest) ≡ script_printed l.text)
    × (l.number + length l.rest ≤ 1 + length l.text)

abbrev pub decreases-loop-line : goal.decreases-loop-line
decreases-loop-line l = length l.rest
