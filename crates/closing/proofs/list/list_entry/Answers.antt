-- What the list tells holds of every list.
use Rattle.closing.proofs.Listing.{list_tells}
use Rattle.closing.proofs.list.list_entry.Goals as goal

pub returns-then-not-are_large_enough-clause-law : goal.returns-then-not-are_large_enough-clause-law
returns-then-not-are_large_enough-clause-law g c = list_tells g.S.Sheet.rows

pub returns-clause-law : goal.returns-clause-law
returns-clause-law g c = list_tells g.S.Sheet.rows
