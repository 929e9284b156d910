-- A line that rests.
use Rattle.std.proofs.Common.{◌≡◌, false, refl}
use Rattle.njh_bisync.specs.Reading.{Rest, Nothing, AfterSoh, AfterDle, InText, has_begun}

pub nothing_begun : (rest : Rest) → has_begun rest ≡ false → rest ≡ Nothing
nothing_begun Nothing e = refl
nothing_begun AfterSoh e = absurd (cc e)
nothing_begun AfterDle e = absurd (cc e)
nothing_begun (InText good dangling) e = absurd (cc e)
