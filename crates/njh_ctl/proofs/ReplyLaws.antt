-- An answer that says nothing.
use Rattle.std.proofs.Common.{◌≡◌, Bool, true, false, List, ℕ, Option, None, Some, ap, codes, cond, refl, ◌∙◌}
use Rattle.std.specs.Prelude.{nat_lt, option_and_then}
use Rattle.serde_json.specs.Data.{Data}
use Rattle.njh_ctl.specs.Answers.{IsNoValue, json_in, string_in}
use Rattle.njh_ctl.specs.Exchanges.{ReplyView}
use Rattle.njh_ctl.specs.Faults.{IsFaultOf, IsNoRefusal}
use Rattle.njh_ctl.specs.declared.fault.CtlFault.{CtlFault}
use Rattle.njh_ctl.specs.declared.fault.CtlFault.TheVariants as fault

value_where : (small : Bool) (o : Option Data) → o ≡ None → cond small o None ≡ None
value_where true o none = none
value_where false o none = refl

sentence_where : (small : Bool) (o : Option Data) (f : Data → Option (List ℕ)) → o ≡ None
    → cond small None (option_and_then f o) ≡ None
sentence_where true o f none = refl
sentence_where false o f none = ap (option_and_then f) none

-- what is no JSON is neither a value nor a refusal
pub no_value : (reply : ReplyView) (f : CtlFault) → IsNoValue (json_in reply.body) f → IsFaultOf reply f
no_value reply fault.NotUnderstood none = (
  value_where (nat_lt reply.status 300) (json_in reply.body) none,
  sentence_where (nat_lt reply.status 300) (json_in reply.body) (string_in (codes "error")) none,
)
no_value reply fault.Memory none = tt
no_value reply (fault.Refused sentence) none = absurd none
no_value reply (fault.NotDone sentence) none = absurd none
no_value reply (fault.Untold sentence) none = absurd none
no_value reply (fault.Lost name) none = absurd none
no_value reply (fault.CutOff name) none = absurd none
no_value reply fault.NoOrder none = absurd none
no_value reply fault.BadName none = absurd none
no_value reply fault.NoLine none = absurd none
no_value reply fault.NotALine none = absurd none
no_value reply fault.TurnedDown none = absurd none
no_value reply fault.Wrong none = absurd none
no_value reply fault.Silent none = absurd none
no_value reply fault.Broken none = absurd none
no_value reply (fault.NoConsole why) none = absurd none

value_refused : (small : Bool) (o : Option Data) → small ≡ false → cond small o None ≡ None
value_refused small o is = ap (λ (b : Bool). cond b o None) is

sentence_refused : (small : Bool) (o : Option Data) (d : Data) → small ≡ false → o ≡ Some d
    → string_in (codes "error") d ≡ None → cond small None (option_and_then (string_in (codes "error")) o) ≡ None
sentence_refused small o d is found none =
    ap (λ (b : Bool). cond b None (option_and_then (string_in (codes "error")) o)) is
    ∙ ap (option_and_then (string_in (codes "error"))) found ∙ none

-- what is no value and has no sentence is no refusal
pub no_refusal : (reply : ReplyView) (d : Data) (f : CtlFault) → json_in reply.body ≡ Some d
    → nat_lt reply.status 300 ≡ false → IsNoRefusal d f → IsFaultOf reply f
no_refusal reply d fault.NotUnderstood found refuses none = (
  value_refused (nat_lt reply.status 300) (json_in reply.body) refuses,
  sentence_refused (nat_lt reply.status 300) (json_in reply.body) d refuses found none,
)
no_refusal reply d fault.Memory found refuses none = tt
no_refusal reply d (fault.Refused sentence) found refuses none = absurd none
no_refusal reply d (fault.NotDone sentence) found refuses none = absurd none
no_refusal reply d (fault.Untold sentence) found refuses none = absurd none
no_refusal reply d (fault.Lost name) found refuses none = absurd none
no_refusal reply d (fault.CutOff name) found refuses none = absurd none
no_refusal reply d fault.NoOrder found refuses none = absurd none
no_refusal reply d fault.BadName found refuses none = absurd none
no_refusal reply d fault.NoLine found refuses none = absurd none
no_refusal reply d fault.NotALine found refuses none = absurd none
no_refusal reply d fault.TurnedDown found refuses none = absurd none
no_refusal reply d fault.Wrong found refuses none = absurd none
no_refusal reply d fault.Silent found refuses none = absurd none
no_refusal reply d fault.Broken found refuses none = absurd none
no_refusal reply d (fault.NoConsole why) found refuses none = absurd none
