-- An empty mask names none of the tags of sets.
use Rattle.std.proofs.Common.{refl}
use Rattle.messages.proofs.OfTags.{none_named}
use Rattle.messages.proofs.tags.VoteTags.basic.Goals as goal

pub returns : goal.returns
returns c = record { value = refl; names = none_named }
