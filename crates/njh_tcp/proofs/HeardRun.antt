-- What a rest gives of bytes is what is heard of the items that they read as.
use Rattle.std.proofs.Common.{◌≡◌, ℕ, ◌-◌, ◌≤◌, ◌==◌, List, [], ◌∷◌, ◌++◌, length, Bool, true, false, refl, ap, sym}
use Rattle.std.proofs.Common.{if◌then◌else◌, ◌∙◌, arith, length-append, subst}
use Rattle.std.specs.Prelude.{nat_lt, Option, Some, None}
use Rattle.std.specs.List.{cons_option}
use Rattle.std.proofs.lemmas.Bool.{ltb-false}
use Rattle.njh_tcp.specs.Limits.{ttb_head, ttr_head, shortest_ttb}
use Rattle.njh_tcp.specs.Faults.{head_fault}
use Rattle.njh_tcp.specs.Carried.{Carried, Enquiry, Ack0, Text, carried_by}
use Rattle.njh_tcp.specs.Blocks.{length_in, Ttr, Partial, in_head, in_ttr_head, in_ttr, wrong_head, wrong_ttr_head}
use Rattle.njh_tcp.specs.Blocks.{IsPartial, bytes_behind, Item, Whole, Wrong}
use Rattle.njh_tcp.specs.Hearing.{Hearing, Hears, Refused, Heard, heard_as, heard_of, outcomes_of, hearing_after}
use Rattle.njh_tcp.specs.Reading.{Part, InHead, InTtrHead, InTtr, Open, Shut, part_of, IsRight, rest_of}
use Rattle.njh_tcp.specs.ByteSteps.{PartStep, goes_to, ends_with, fitting, part_step}
use Rattle.njh_tcp.specs.ByteSteps.{with_byte, RestStep, heard_in, rest_step, outcomes_after, rest_after}
use Rattle.njh_tcp.specs.declared.contact.Contact.{Contact}
use Rattle.njh_tcp.specs.declared.contact.Contact.TheVariants.{Called, Calling, Over}
use Rattle.njh_tcp.specs.declared.fault.TtbFault.{TtbFault}
use Rattle.njh_tcp.specs.declared.fault.TtbFault.TheVariants.{ShortTtb}
use Rattle.njh_tcp.proofs.TtbRun.{Step, goes_on, tells, fitted, whole_data, closes, step}
use Rattle.njh_tcp.proofs.TtbRun.{Run, run}
use Rattle.njh_tcp.proofs.TtbRun.{keeps, length-push}

-- it goes on unless something is wrong
abbrev pub IsSuited : Option Item → Partial → Type 0
IsSuited None partial = IsRight partial
IsSuited (Some (Whole held)) partial = IsRight partial
IsSuited (Some (Wrong fault)) partial = Unit {0}

-- a step, as a rest has it
abbrev pub turned : Step → PartStep
turned s = record { item = s.item; part = part_of s.partial }

pub record Turns (of : PartStep) (s : Step) : Type 0 where
  pub same : of ≡ turned s
  pub suited : IsSuited s.item s.partial

turns-came : (bytes : List ℕ) (n : ℕ) (part : Part) (of : PartStep) (partial : Partial) (s : Step) (test : Bool)
    → nat_lt (length bytes) n ≡ test → part ≡ part_of partial → IsRight partial
    → (n ≤ length bytes → Turns of s)
    → Turns (if test then goes_to part else of) (if test then goes_on partial else s)
turns-came bytes n part of partial s true is same right ends = record { same = ap goes_to same; suited = right }
turns-came bytes n part of partial s false is same right ends = ends (ltb-false (length bytes) n is)

turns-head : (head : List ℕ) (short : Bool)
    → Turns (if short then ends_with (Wrong (ShortTtb (length_in head))) (InHead [])
    else goes_to (InTtrHead (length_in head - shortest_ttb) []))
    (if short then tells (Wrong (ShortTtb (length_in head))) (wrong_head head [])
    else goes_on (in_ttr_head head [] []))
turns-head head true = record { same = refl; suited = tt }
turns-head head false = record { same = refl; suited = tt }

turns-fits-some : (head : List ℕ) (ttrs : List Ttr) (next : List ℕ) (none : Bool)
    → Turns (if none then goes_to (InHead [])
    else goes_to (InTtr (bytes_behind head ttrs - length_in next) (length_in next) []))
    (if none then closes (record { head = head; ttrs = ttrs; end = next }) else goes_on (in_ttr head ttrs next []))
turns-fits-some head ttrs next true = record { same = refl; suited = tt }
turns-fits-some head ttrs next false = record { same = refl; suited = tt }

turns-fitted : (head : List ℕ) (ttrs : List Ttr) (next : List ℕ) (fault : Option TtbFault)
    → Turns (fitting fault (if length_in next == 0 then goes_to (InHead [])
    else goes_to (InTtr (bytes_behind head ttrs - length_in next) (length_in next) []))) (fitted head ttrs next fault)
turns-fitted head ttrs next (Some fault) = record { same = refl; suited = tt }
turns-fitted head ttrs next None = turns-fits-some head ttrs next (length_in next == 0)

-- behind the data of a TTR
behind-push : (head : List ℕ) (ttrs : List Ttr) (next held : List ℕ) → length next ≡ ttr_head
    → length held ≡ length_in next → bytes_behind head ttrs - length_in next - ttr_head
    ≡ bytes_behind head (ttrs ++ record { head = next; held = held } ∷ [])
behind-push head ttrs next held size full =
    omega (arith, size, full, length-push ttrs (record { head = next; held = held }))

turns-data : (head : List ℕ) (ttrs : List Ttr) (next held : List ℕ) → length next ≡ ttr_head
    → length held ≡ length_in next
    → Turns (ends_with (Whole held) (InTtrHead (bytes_behind head ttrs - length_in next - ttr_head) []))
    (whole_data head ttrs next held)
turns-data head ttrs next held size full = record {
  same = ap (λ n. ends_with (Whole held) (InTtrHead n [])) (behind-push head ttrs next held size full);
  suited = tt;
}

pub turns : (partial : Partial) (byte : ℕ) → IsPartial partial → IsRight partial
    → Turns (part_step (with_byte (part_of partial) byte)) (step partial byte)
unfolding part_step
turns (in_head part) byte is right =
    let head = part ++ byte ∷ [] in
    turns-came head ttb_head (InHead head) _ (in_head head) _ (nat_lt (length head) ttb_head) refl refl tt
    (λ full. turns-head head (nat_lt (length_in head) shortest_ttb))
turns (in_ttr_head head ttrs part) byte is right =
    let next = part ++ byte ∷ [] in
    turns-came next ttr_head (InTtrHead (bytes_behind head ttrs) next) _ (in_ttr_head head ttrs next) _
    (nat_lt (length next) ttr_head) refl refl tt
    (λ full. turns-fitted head ttrs next (head_fault (bytes_behind head ttrs) (length_in next)))
turns (in_ttr head ttrs next part) byte is right =
    let held = part ++ byte ∷ [] in
    turns-came held (length_in next) (InTtr (bytes_behind head ttrs - length_in next) (length_in next) held) _
    (in_ttr head ttrs next held) _ (nat_lt (length held) (length_in next)) refl refl tt
    (λ full. turns-data head ttrs next held is.1 (omega (arith, length-append part (byte ∷ []), is.3, full)))
turns (wrong_head head after) byte is right = absurd right
turns (wrong_ttr_head head ttrs next after) byte is right = absurd right

-- who hears has a TTB that goes on
abbrev pub Suits : Hearing → Partial → Type 0
Suits (Hears contact) partial = IsRight partial
Suits (Refused fault) partial = Unit {0}

suits-as : (contact : Contact) (held : List ℕ) (carried : Option Carried) (partial : Partial) → IsRight partial
    → Suits (heard_as contact held carried).hearing partial
suits-as contact held (Some (Text text)) partial right = right
suits-as Called held (Some Enquiry) partial right = right
suits-as Calling held (Some Enquiry) partial right = tt
suits-as Over held (Some Enquiry) partial right = tt
suits-as Called held (Some Ack0) partial right = right
suits-as Calling held (Some Ack0) partial right = right
suits-as Over held (Some Ack0) partial right = right
suits-as contact held None partial right = tt

-- what is heard of an item, or of none
abbrev heard_item : Contact → Option Item → Heard
heard_item contact None = record { outcome = None; hearing = Hears contact }
heard_item contact (Some item) = heard_of (Hears contact) item

suits-item : (contact : Contact) (item : Option Item) (partial : Partial) → IsSuited item partial
    → Suits (heard_item contact item).hearing partial
suits-item contact None partial right = right
suits-item contact (Some (Wrong fault)) partial suited = tt
suits-item contact (Some (Whole held)) partial right = suits-as contact held (carried_by held) partial right

heard_in-is : (contact : Contact) (item : Option Item) (part : Part) → heard_in contact item part
    ≡ record {
      outcome = (heard_item contact item).outcome;
      rest = rest_of (heard_item contact item).hearing part;
    }
heard_in-is contact None part = refl
heard_in-is contact (Some item) part = refl

outcomes-item : (contact : Contact) (item : Option Item) (items : List Item)
    → outcomes_of (Hears contact) (cons_option item items)
    ≡ cons_option (heard_item contact item).outcome (outcomes_of (heard_item contact item).hearing items)
outcomes-item contact None items = refl
outcomes-item contact (Some item) items = refl

hearing-item : (contact : Contact) (item : Option Item) (items : List Item)
    → hearing_after (Hears contact) (cons_option item items)
    ≡ hearing_after (heard_item contact item).hearing items
hearing-item contact None items = refl
hearing-item contact (Some item) items = refl

-- after a refusal
pub outcomes-refused : (fault : TtbFault) (items : List Item) → outcomes_of (Refused fault) items ≡ []
outcomes-refused fault [] = refl
outcomes-refused fault (item ∷ items) = outcomes-refused fault items

pub hearing-refused : (fault : TtbFault) (items : List Item) → hearing_after (Refused fault) items ≡ Refused fault
hearing-refused fault [] = refl
hearing-refused fault (item ∷ items) = hearing-refused fault items

pub outcomes-shut : (fault : TtbFault) (bytes : List ℕ) → outcomes_after (Shut fault) bytes ≡ []
unfolding rest_step
outcomes-shut fault [] = refl
outcomes-shut fault (byte ∷ bytes) = outcomes-shut fault bytes

pub rest-shut : (fault : TtbFault) (bytes : List ℕ) → rest_after (Shut fault) bytes ≡ Shut fault
unfolding rest_step
rest-shut fault [] = refl
rest-shut fault (byte ∷ bytes) = rest-shut fault bytes

-- What bytes give after a rest is what is heard of the items of the run.
pub record HearsAs (hearing : Hearing) (partial : Partial) (bytes : List ℕ) (r : Run) : Type 0 where
  pub outcomes : outcomes_after (rest_of hearing (part_of partial)) bytes ≡ outcomes_of hearing r.items
  pub rest : rest_after (rest_of hearing (part_of partial)) bytes ≡ rest_of (hearing_after hearing r.items)
      (part_of r.partial)
  pub suits : Suits (hearing_after hearing r.items) r.partial

-- a byte of a TTB that goes on
step-heard : (contact : Contact) (partial : Partial) (byte : ℕ) → IsPartial partial → IsRight partial
    → rest_step (Open contact (part_of partial)) byte
    ≡ record {
      outcome = (heard_item contact (step partial byte).item).outcome;
      rest = rest_of (heard_item contact (step partial byte).item).hearing (part_of (step partial byte).partial);
    }
unfolding rest_step
step-heard contact partial byte is right =
    ap (λ (s : PartStep). heard_in contact s.item s.part) (turns partial byte is right).same
    ∙ heard_in-is contact (step partial byte).item (part_of (step partial byte).partial)

pub hears_as : (hearing : Hearing) (partial : Partial) (bytes : List ℕ) → IsPartial partial → Suits hearing partial
    → HearsAs hearing partial bytes (run partial bytes)
hears_as hearing partial [] is suits = record { outcomes = refl; rest = refl; suits = suits }
hears_as (Refused fault) partial (byte ∷ bytes) is suits =
    let items = (run partial (byte ∷ bytes)).items in
    let refused : Refused fault ≡ hearing_after (Refused fault) items = sym (hearing-refused fault items) in
    record {
      outcomes = outcomes-shut fault (byte ∷ bytes) ∙ sym (outcomes-refused fault items);
      rest = rest-shut fault (byte ∷ bytes)
          ∙ ap (λ h. rest_of h (part_of (run partial (byte ∷ bytes)).partial)) refused;
      suits = subst (λ (h : Hearing). Suits h (run partial (byte ∷ bytes)).partial) refused tt;
    }
hears_as (Hears contact) partial (byte ∷ bytes) is right =
    let s = step partial byte in
    let heard = heard_item contact s.item in
    let later = run s.partial bytes in
    let more = hears_as heard.hearing s.partial bytes (keeps partial byte is).last
    (suits-item contact s.item s.partial (turns partial byte is right).suited) in
    let one = step-heard contact partial byte is right in
    let after = hearing-item contact s.item later.items in
    record {
      outcomes = ap (λ (t : RestStep). cons_option t.outcome (outcomes_after t.rest bytes)) one
          ∙ (ap (cons_option heard.outcome) more.outcomes ∙ sym (outcomes-item contact s.item later.items));
      rest = ap (λ (t : RestStep). rest_after t.rest bytes) one
          ∙ (more.rest ∙ ap (λ h. rest_of h (part_of later.partial)) (sym after));
      suits = subst (λ (h : Hearing). Suits h later.partial) (sym after) more.suits;
    }
