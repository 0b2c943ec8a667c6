-- What the tests of an evening decide. Assumes nothing.
use Rattle.std.specs.Prelude.{Bool, true, false, Some, None, Option}

-- two decide a ballot differently: both have decided, and one 0 where the other 1
abbrev pub differ : Option Bool → Option Bool → Bool
differ None b = false
differ (Some true) None = false
differ (Some true) (Some true) = false
differ (Some true) (Some false) = true
differ (Some false) None = false
differ (Some false) (Some true) = true
differ (Some false) (Some false) = false
