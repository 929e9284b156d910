-- The texts that are given are those that came.
use Rattle.std.proofs.Common.{◌≡◌, ℕ, List, [], ◌∷◌, ◌++◌, refl, ap, sym, ◌∙◌, append_assoc, append-nil, lit<, subst}
use Rattle.std.specs.Prelude.{flat_map, Option, Some, None}
use Rattle.std.specs.List.{AllByRecursion, cons_option}
use Rattle.std.proofs.lemmas.List.Concat.{flat_map-append}
use Rattle.std.proofs.lemmas.List.Elements.{filter_map-append}
use Rattle.njh_tcp.specs.Carried.{Carried, Enquiry, Ack0, Text, carried_by}
use Rattle.njh_tcp.specs.Blocks.{Ttb, Partial, in_head, bytes_of_ttb, IsTtb, bytes_of_partial, Splits, Item, Whole}
use Rattle.njh_tcp.specs.Blocks.{Wrong, items_of_ttrs, items_of_partial, items_of}
use Rattle.njh_tcp.specs.Faults.{strange}
use Rattle.njh_tcp.specs.Hearing.{Outcome, Hearing, Hears, Refused, heard_as, outcomes_of, hearing_after}
use Rattle.njh_tcp.specs.Reading.{Part, Rest, Open, Shut, afresh, contact_over, part_of, IsRight, rest_of}
use Rattle.njh_tcp.specs.Texts.{text_of, text_in, texts_in, texts_given, AreThose, GivesTexts}
use Rattle.njh_tcp.specs.ByteSteps.{outcomes_after, rest_after}
use Rattle.njh_tcp.specs.declared.contact.Contact.{Contact}
use Rattle.njh_tcp.specs.declared.contact.Contact.TheVariants.{Called, Calling, Over}
use Rattle.njh_tcp.specs.declared.fault.TtbFault.{TtbFault}
use Rattle.njh_tcp.proofs.TtbRun.{run, runs_as}
use Rattle.njh_tcp.proofs.HeardRun.{Suits, hears_as, outcomes-refused, hearing-refused, outcomes-shut, rest-shut}

-- the texts that were heard of items, by who hears on
abbrev AreHeard : List (List ℕ) → List (List ℕ) → Hearing → Type 0
AreHeard those texts (Hears contact) = texts ≡ those
AreHeard those texts (Refused fault) = (later : List (List ℕ)) × (those ≡ texts ++ later)

-- one more in front, or none
cons-heard : (text : List ℕ) (those texts : List (List ℕ)) (hearing : Hearing) → AreHeard those texts hearing
    → AreHeard (text ∷ those) (text ∷ texts) hearing
cons-heard text those texts (Hears contact) are = ap (λ (l : List (List ℕ)). text ∷ l) are
cons-heard text those texts (Refused fault) are = (are.0, ap (λ (l : List (List ℕ)). text ∷ l) are.1)

-- nothing is given after a refusal
none-heard : (fault : TtbFault) (items : List Item) → AreHeard (texts_in items)
    (texts_given (outcomes_of (Refused fault) items)) (hearing_after (Refused fault) items)
none-heard fault items =
    let refused = sym (hearing-refused fault items) in
    let none : texts_in items ≡ texts_given (outcomes_of (Refused fault) items) ++ texts_in items =
    ap (λ l. texts_given l ++ texts_in items) (sym (outcomes-refused fault items)) in
    subst (λ (h : Hearing). AreHeard (texts_in items) (texts_given (outcomes_of (Refused fault) items)) h) refused
    (texts_in items, none)

-- what is heard of the items behind
abbrev AllHeard : List Item → Type 0
AllHeard items = (contact : Contact)
    → AreHeard (texts_in items) (texts_given (outcomes_of (Hears contact) items)) (hearing_after (Hears contact) items)

texts-as : (contact : Contact) (held : List ℕ) (carried : Option Carried) (items : List Item) → AllHeard items
    → let heard = heard_as contact held carried in
    AreHeard (cons_option (text_of carried) (texts_in items))
    (texts_given (cons_option heard.outcome (outcomes_of heard.hearing items))) (hearing_after heard.hearing items)
texts-as contact held (Some (Text text)) items later =
    cons-heard text (texts_in items) (texts_given (outcomes_of (Hears Over) items)) (hearing_after (Hears Over) items)
    (later Over)
texts-as Called held (Some Enquiry) items later = later Called
texts-as Calling held (Some Enquiry) items later = none-heard (strange held) items
texts-as Over held (Some Enquiry) items later = none-heard (strange held) items
texts-as Called held (Some Ack0) items later = later Called
texts-as Calling held (Some Ack0) items later = later Calling
texts-as Over held (Some Ack0) items later = later Over
texts-as contact held None items later = none-heard (strange held) items

pub texts-heard : (contact : Contact) (items : List Item)
    → AreHeard (texts_in items) (texts_given (outcomes_of (Hears contact) items)) (hearing_after (Hears contact) items)
texts-heard contact [] = refl
texts-heard contact (Wrong fault ∷ items) = none-heard fault items
texts-heard contact (Whole held ∷ items) = texts-as contact held (carried_by held) items (λ c. texts-heard c items)

-- TTBs and a rest, and bytes behind them
each-append : (ttbs others : List Ttb) → AllByRecursion IsTtb ttbs → AllByRecursion IsTtb others
    → AllByRecursion IsTtb (ttbs ++ others)
each-append [] others each more = more
each-append (ttb ∷ ttbs) others each more = (each.0, each-append ttbs others each.1 more)

-- a front and then what stands behind it
regrouped : {A : Type 0} (bytes : Ttb → List A) (ttbs others : List Ttb) (front more last : List A)
    → front ++ more ≡ flat_map bytes others ++ last
    → (flat_map bytes ttbs ++ front) ++ more ≡ flat_map bytes (ttbs ++ others) ++ last
regrouped bytes ttbs others front more last is =
    append_assoc (flat_map bytes ttbs) front more
    ∙ (ap (λ l. flat_map bytes ttbs ++ l) is
    ∙ (sym (append_assoc (flat_map bytes ttbs) (flat_map bytes others) last)
    ∙ ap (λ l. l ++ last) (sym (flat_map-append bytes ttbs others))))

splits-more : (seen : List ℕ) (ttbs : List Ttb) (partial : Partial) (more : List ℕ) → Splits seen ttbs partial
    → Splits (seen ++ more) (ttbs ++ (run partial more).ttbs) (run partial more).partial
splits-more seen ttbs partial more splits =
    let r = run partial more in
    let read = runs_as partial more splits.last in
    record {
      whole = ap (λ l. l ++ more) splits.whole
          ∙ regrouped bytes_of_ttb ttbs r.ttbs (bytes_of_partial partial) more (bytes_of_partial r.partial) read.whole;
      each = each-append ttbs r.ttbs splits.each read.each;
      last = read.last;
    }

texts-more : (seen : List ℕ) (ttbs : List Ttb) (partial : Partial) (more : List ℕ) → Splits seen ttbs partial
    → texts_in (items_of ttbs partial) ++ texts_in (run partial more).items
    ≡ texts_in (items_of (ttbs ++ (run partial more).ttbs) (run partial more).partial)
texts-more seen ttbs partial more splits =
    let r = run partial more in
    let read = runs_as partial more splits.last in
    sym (filter_map-append text_in (items_of ttbs partial) r.items)
    ∙ ap texts_in (regrouped (λ ttb. items_of_ttrs ttb.ttrs) ttbs r.ttbs (items_of_partial partial) r.items
    (items_of_partial r.partial) read.told)

-- what was given, and what is given of more bytes
those-more : (those texts heard given : List (List ℕ)) (partial : Partial) (hearing : Hearing) → texts ≡ those
    → AreHeard heard given hearing → Suits hearing partial
    → AreThose partial (those ++ heard) (texts ++ given) (rest_of hearing (part_of partial))
those-more those texts heard given partial (Hears contact) are were suits =
    (ap (λ l. l ++ given) are ∙ ap (λ l. those ++ l) were, refl, suits)
those-more those texts heard given partial (Refused fault) are were suits = (
  were.0,
  ap (λ l. those ++ l) were.1
      ∙ (sym (append_assoc those given were.0) ∙ ap (λ l. (l ++ given) ++ were.0) (sym are)),
)

texts-open : (seen : List ℕ) (texts : List (List ℕ)) (contact : Contact) (part : Part) (ttbs : List Ttb)
    (partial : Partial) (more : List ℕ) → Splits seen ttbs partial → part ≡ part_of partial → IsRight partial
    → texts ≡ texts_in (items_of ttbs partial)
    → GivesTexts (seen ++ more) (texts ++ texts_given (outcomes_after (Open contact part) more))
    (rest_after (Open contact part) more)
texts-open seen texts contact part ttbs partial more splits at right are =
    let r = run partial more in
    let heard = hears_as (Hears contact) partial more splits.last right in
    let given : outcomes_after (Open contact part) more ≡ outcomes_of (Hears contact) r.items =
    ap (λ p. outcomes_after (Open contact p) more) at ∙ heard.outcomes in
    let left : rest_after (Open contact part) more ≡ rest_of (hearing_after (Hears contact) r.items)
    (part_of r.partial) = ap (λ p. rest_after (Open contact p) more) at ∙ heard.rest in
    let those = those-more (texts_in (items_of ttbs partial)) texts (texts_in r.items)
    (texts_given (outcomes_of (Hears contact) r.items)) r.partial (hearing_after (Hears contact) r.items) are
    (texts-heard contact r.items) heard.suits in
    record {
      ttbs = ttbs ++ r.ttbs;
      partial = r.partial;
      splits = splits-more seen ttbs partial more splits;
      those = subst (λ (l : List (List ℕ)). AreThose r.partial l
          (texts ++ texts_given (outcomes_after (Open contact part) more)) (rest_after (Open contact part) more))
          (texts-more seen ttbs partial more splits)
          (subst (λ (s : Rest). AreThose r.partial (texts_in (items_of ttbs partial) ++ texts_in r.items)
          (texts ++ texts_given (outcomes_after (Open contact part) more)) s) (sym left)
          (subst (λ (l : List Outcome). AreThose r.partial (texts_in (items_of ttbs partial) ++ texts_in r.items)
          (texts ++ texts_given l) (rest_of (hearing_after (Hears contact) r.items) (part_of r.partial))) (sym given)
          those));
    }

texts-shut : (seen : List ℕ) (texts : List (List ℕ)) (fault : TtbFault) (ttbs : List Ttb) (partial : Partial)
    (later : List (List ℕ)) (more : List ℕ) → Splits seen ttbs partial
    → texts_in (items_of ttbs partial) ≡ texts ++ later
    → GivesTexts (seen ++ more) (texts ++ texts_given (outcomes_after (Shut fault) more))
    (rest_after (Shut fault) more)
texts-shut seen texts fault ttbs partial later more splits are =
    let r = run partial more in
    let none : texts ≡ texts ++ texts_given (outcomes_after (Shut fault) more) =
    sym (ap (λ l. texts ++ texts_given l) (outcomes-shut fault more) ∙ append-nil texts) in
    let those : texts_in (items_of (ttbs ++ r.ttbs) r.partial)
    ≡ (texts ++ texts_given (outcomes_after (Shut fault) more)) ++ (later ++ texts_in r.items) =
    sym (texts-more seen ttbs partial more splits)
    ∙ (ap (λ l. l ++ texts_in r.items) are
    ∙ (append_assoc texts later (texts_in r.items) ∙ ap (λ l. l ++ (later ++ texts_in r.items)) none)) in
    record {
      ttbs = ttbs ++ r.ttbs;
      partial = r.partial;
      splits = splits-more seen ttbs partial more splits;
      those = subst (λ (s : Rest). AreThose r.partial (texts_in (items_of (ttbs ++ r.ttbs) r.partial))
          (texts ++ texts_given (outcomes_after (Shut fault) more)) s) (sym (rest-shut fault more))
          (later ++ texts_in r.items, those);
    }

pub gives_more : (seen : List ℕ) (texts : List (List ℕ)) (rest : Rest) (more : List ℕ) → GivesTexts seen texts rest
    → GivesTexts (seen ++ more) (texts ++ texts_given (outcomes_after rest more)) (rest_after rest more)
gives_more seen texts (Open contact part) more gives =
    texts-open seen texts contact part gives.ttbs gives.partial more gives.splits gives.those.1 gives.those.2
    gives.those.0
gives_more seen texts (Shut fault) more gives =
    texts-shut seen texts fault gives.ttbs gives.partial gives.those.0 more gives.splits gives.those.1

pub gives_none : (contact : Contact) → GivesTexts [] [] (afresh contact)
gives_none contact = record {
  ttbs = [];
  partial = in_head [];
  splits = record { whole = refl; each = tt; last = lit< tt };
  those = (refl, refl, tt);
}

pub gives_on : (seen : List ℕ) (texts : List (List ℕ)) (rest : Rest) → GivesTexts seen texts rest
    → GivesTexts seen texts (contact_over rest)
gives_on seen texts (Open contact part) gives =
    record { ttbs = gives.ttbs; partial = gives.partial; splits = gives.splits; those = gives.those }
gives_on seen texts (Shut fault) gives = gives
