-- What is written reads back.
use Rattle.std.proofs.Common.{◌≡◌, ℕ, ◌+◌, ◌<◌, ◌≤◌, ◌^◌, ◌∙◌, List, [], ◌∷◌, ◌++◌, length, refl, ap, sym, arith}
use Rattle.std.proofs.Common.{append_assoc, append-nil, length-append, lit<, lit≤}
use Rattle.std.specs.Prelude.{Option, Some, None, flat_map, map}
use Rattle.std.specs.List.{AllByRecursion, cons_option}
use Rattle.byteorder.specs.Endian.{big_bytes}
use Rattle.byteorder.specs.Numbers.{big_number-reads_back}
use Rattle.njh_tcp.specs.Limits.{shortest_ttb, ttr_head, longest_ttr}
use Rattle.njh_tcp.specs.Carried.{Carried, Enquiry, Ack0, Text, IsCarried, data_of, carried_by}
use Rattle.njh_tcp.specs.Blocks.{IsTtb, in_head, Splits, Whole}
use Rattle.njh_tcp.specs.Hearing.{Outcome, Hears, heard_as, outcomes_of, hearing_after}
use Rattle.njh_tcp.specs.Reading.{InHead, afresh, outcome_list, part_of, rest_of}
use Rattle.njh_tcp.specs.Written.{ttb_holding, framed, ttb_bytes, text_outcome}
use Rattle.njh_tcp.specs.ByteSteps.{outcomes_after, rest_after}
use Rattle.njh_tcp.specs.declared.contact.Contact.{Contact}
use Rattle.njh_tcp.specs.declared.contact.Contact.TheVariants.{Over}
use Rattle.njh_tcp.proofs.TtbRun.{Run, run}
use Rattle.njh_tcp.proofs.HeardRun.{hears_as}
use Rattle.njh_tcp.proofs.RunTtbs.{run-ttb}
use Rattle.njh_tcp.proofs.FedLaws.{outcomes_after-append}

pub length_framed : (held : List ℕ) → length (framed held) ≡ 16 + length held
unfolding framed
length_framed held =
    omega (arith, length-append (held ++ []) (0 ∷ 0 ∷ 0 ∷ 0 ∷ []), length-append held [])

-- the parts of a TTB, as they are written
pub framed_put : (old front text : List ℕ) (whole size : ℕ) → whole ≡ shortest_ttb + (ttr_head + length (front ++ text))
    → size ≡ length (front ++ text)
    → (((((old ++ 0 ∷ 0 ∷ big_bytes 2 whole) ++ 0 ∷ 0 ∷ 0 ∷ 0 ∷ []) ++ 0 ∷ 0 ∷ big_bytes 2 size) ++ front) ++ text)
    ++ 0 ∷ 0 ∷ 0 ∷ 0 ∷ [] ≡ old ++ framed (front ++ text)
unfolding framed
framed_put old front text whole size whole_is size_is =
    rw (whole_is, size_is) (simp (append_assoc, append-nil))

-- A TTB that is written is one.
pub is_ttb : (held : List ℕ) → 0 < length held → length held ≤ longest_ttr → IsTtb (ttb_holding held)
is_ttb held some short =
    let size : length held < 256 ^ 2 = omega arith in
    let whole : shortest_ttb + (ttr_head + length held) < 256 ^ 2 = omega arith in
    record {
      size = refl;
      tells = big_number-reads_back 2 (shortest_ttb + (ttr_head + length held)) (0 ∷ 0 ∷ 0 ∷ 0 ∷ []) whole
          ∙ omega (arith, length-append (held ++ []) (0 ∷ 0 ∷ 0 ∷ 0 ∷ []), length-append held []);
      each = (
        record { size = refl; tells = big_number-reads_back 2 (length held) [] size; some = some; short = short },
        tt,
      );
      end_size = refl;
      end_tells = refl;
    }

pub carries : (carried : Carried) → IsCarried carried → carried_by (data_of carried) ≡ Some carried
carries Enquiry is = refl
carries Ack0 is = refl
carries (Text []) is = absurd (omega (arith, is.0))
carries (Text (byte ∷ text)) is = refl

some_data : (carried : Carried) → IsCarried carried → 0 < length (data_of carried)
some_data Enquiry is = lit< tt
some_data Ack0 is = lit< tt
some_data (Text text) is = omega arith

short_data : (carried : Carried) → IsCarried carried → length (data_of carried) ≤ longest_ttr
short_data Enquiry is = lit≤ tt
short_data Ack0 is = lit≤ tt
short_data (Text text) is = omega (arith, is.1)

pub is_written : (carried : Carried) → IsCarried carried → IsTtb (ttb_holding (data_of carried))
is_written carried is = is_ttb (data_of carried) (some_data carried is) (short_data carried is)

pub written_splits : (carried : Carried) → IsCarried carried
    → Splits (ttb_bytes carried) (ttb_holding (data_of carried) ∷ []) (in_head [])
unfolding framed
written_splits carried is = record {
  whole = sym (append-nil _ ∙ append-nil _);
  each = (is_written carried is, tt);
  last = lit< tt;
}

written_run : (carried : Carried) → IsCarried carried → run (in_head []) (ttb_bytes carried)
    ≡ record { ttbs = ttb_holding (data_of carried) ∷ []; items = Whole (data_of carried) ∷ []; partial = in_head [] }
unfolding framed
written_run carried is = run-ttb (ttb_holding (data_of carried)) (is_written carried is)

-- what is given of it, by the contact
pub record ReadsBack (contact : Contact) (carried : Carried) : Type 0 where
  pub given : outcomes_after (afresh contact) (ttb_bytes carried)
      ≡ outcome_list (heard_as contact (data_of carried) (Some carried)).outcome
  pub left : rest_after (afresh contact) (ttb_bytes carried)
      ≡ rest_of (heard_as contact (data_of carried) (Some carried)).hearing (InHead [])

listed : (outcome : Option Outcome) → cons_option outcome [] ≡ outcome_list outcome
listed None = refl
listed (Some outcome) = refl

pub reads_back : (contact : Contact) (carried : Carried) → IsCarried carried → ReadsBack contact carried
reads_back contact carried is =
    let bytes = ttb_bytes carried in
    let held = data_of carried in
    let heard = hears_as (Hears contact) (in_head []) bytes (lit< tt) tt in
    let read = written_run carried is in
    let known = carries carried is in
    record {
      given = heard.outcomes
          ∙ (ap (λ (r : Run). outcomes_of (Hears contact) r.items) read
          ∙ (ap (λ k. cons_option (heard_as contact held k).outcome []) known ∙ listed (heard_as contact held (Some carried)).outcome));
      left = heard.rest
          ∙ (ap (λ (r : Run). rest_of (hearing_after (Hears contact) r.items) (part_of r.partial)) read
          ∙ ap (λ k. rest_of (heard_as contact held k).hearing (InHead [])) known);
    }

-- texts that are written one after another
pub texts_back : (contact : Contact) (texts : List (List ℕ)) → AllByRecursion (λ text. IsCarried (Text text)) texts
    → outcomes_after (afresh contact) (flat_map (λ text. ttb_bytes (Text text)) texts)
    ≡ map text_outcome texts
texts_back contact [] each = refl
texts_back contact (text ∷ texts) each =
    let first = reads_back contact (Text text) each.0 in
    let later = flat_map (λ t. ttb_bytes (Text t)) texts in
    outcomes_after-append (afresh contact) (ttb_bytes (Text text)) later
    ∙ (ap (λ l. l ++ outcomes_after (rest_after (afresh contact) (ttb_bytes (Text text))) later) first.given
    ∙ (ap (λ r. text_outcome text ∷ outcomes_after r later) first.left
    ∙ ap (λ (l : List Outcome). text_outcome text ∷ l) (texts_back Over texts each.1)))
