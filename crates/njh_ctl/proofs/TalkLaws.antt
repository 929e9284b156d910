-- A talk by its parts.
use Rattle.std.proofs.Common.{◌≡◌, ◌∙◌, ℕ, Bool, List, Result, Ok, Err, IfOk, OnOk, ap}
use Rattle.njh_ctl.specs.Exchanges.{Link}
use Rattle.njh_ctl.specs.Orders.{TalkView}
use Rattle.njh_ctl.specs.Talks.{LinesFound, LinesNamed, with_head}
use Rattle.njh_ctl.specs.Told.{Told, headed}

abbrev pub talk_of : Link → Told → ℕ → TalkView
talk_of link told moment = record { link = link; told = told; moment = moment }

-- with what is to stand above what is told next
pub headed_by : (head : List ℕ) (link : Link) (told new : Told) (moment : ℕ) (old : TalkView) → new ≡ headed head told
    → talk_of link told moment ≡ old → talk_of link new moment ≡ with_head head old
headed_by head link told new moment old set same =
    ap (λ (t : Told). talk_of link t moment) set ∙ ap (with_head head) same

-- what was told, whether something was found or not
pub found_told : {E : Type 0} (r : Result Bool E) (b : Bool) (names : List (List ℕ)) (name : List ℕ)
    (old new : TalkView) → IfOk r (LinesFound b names name old new) → OnOk r (LinesNamed b names name old new)
found_told (Ok found) b names name old new is = is.told
found_told (Err e) b names name old new is = tt
