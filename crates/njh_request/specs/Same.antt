-- When two orders are the same: the same is ordered, on the same terms.
use Rattle.std.specs.Prelude.{ℕ, ◌&&◌, ◌==◌, Bool, true, false, List, bytes_eq, Option, Some, None}
use Rattle.njh_ebcdic.specs.Users.{User}
use Rattle.njh_table.specs.declared.LineId.{LineId}
use Rattle.njh_request.specs.declared.order.Order.{Order}
use Rattle.njh_request.specs.declared.order.Order.TheVariants as order
use Rattle.njh_request.specs.declared.request.EndMoment.{EndMoment}
use Rattle.njh_request.specs.declared.request.EndMoment.TheVariants.{AtOnce, WhenIdle}
use Rattle.njh_request.specs.declared.request.LineWish.{LineWish}
use Rattle.njh_request.specs.declared.request.LineWish.TheVariants as wish
use Rattle.njh_request.specs.declared.terms.Terms.{Terms}

-- ---- what is ordered

abbrev pub is_same_moment : EndMoment → EndMoment → Bool
is_same_moment AtOnce AtOnce = true
is_same_moment WhenIdle WhenIdle = true
is_same_moment moment other = false

abbrev pub is_same_wish : LineWish → LineWish → Bool
is_same_wish wish.Started wish.Started = true
is_same_wish (wish.Stopped moment) (wish.Stopped other) = is_same_moment moment other
is_same_wish w other = false

abbrev pub is_same_line : LineId → LineId → Bool
is_same_line line other = (line.customer == other.customer) && (line.number == other.number)

abbrev pub is_same_user : User → User → Bool
is_same_user user other = bytes_eq user.node other.node && bytes_eq user.user other.user

abbrev pub is_same_owner : Option User → Option User → Bool
is_same_owner None None = true
is_same_owner (Some owner) (Some other) = is_same_user owner other
is_same_owner owner other = false

abbrev pub is_same_order : Order → Order → Bool
is_same_order (order.Command c owner text) (order.Command d other words) =
    (c == d) && is_same_owner owner other && bytes_eq text words
is_same_order (order.Message c whom text) (order.Message d other words) =
    (c == d) && is_same_user whom other && bytes_eq text words
is_same_order (order.Line line w) (order.Line second other) = is_same_line line second && is_same_wish w other
is_same_order (order.Stop moment) (order.Stop other) = is_same_moment moment other
is_same_order order.Reload order.Reload = true
is_same_order (order.Diff path) (order.Diff other) = bytes_eq path other
is_same_order what other = false

-- ---- on which terms

abbrev pub is_same_name : Option (List ℕ) → Option (List ℕ) → Bool
is_same_name None None = true
is_same_name (Some name) (Some other) = bytes_eq name other
is_same_name name other = false

abbrev pub is_same_until : Option ℕ → Option ℕ → Bool
is_same_until None None = true
is_same_until (Some until) (Some other) = until == other
is_same_until until other = false

abbrev pub is_same_giver : Option (List ℕ) → Option (List ℕ) → Bool
is_same_giver None None = true
is_same_giver (Some by) (Some other) = bytes_eq by other
is_same_giver by other = false

abbrev pub are_same_terms : Terms → Terms → Bool
are_same_terms terms other =
    is_same_name terms.name other.name && is_same_until terms.until other.until && is_same_giver terms.by other.by
