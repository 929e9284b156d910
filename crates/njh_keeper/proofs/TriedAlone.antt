-- What is put back of a customer's files doesn't depend on those of others.
use Rattle.njh_keeper.proofs.Words
use Words.{◌≡◌, ℕ, ◌<◌, Bool, true, false, cond, List, [], ◌∷◌, ◌⊎◌, length, filter, get_or, map, option_map, Option}
use Words.{Some, None, inl, inr}
use Words.{refl, sym, ap, ◌∙◌, cases_Bool, map-map, AllByRecursion, File, SpoolContents, Whole, kept}
use Words.{whole_in}
use Words.{AreDistinct, TableFile, customer_at, Part, part, part_at_open, hub_fault, hub_with, number_of}
use Words.{FileFault, AreBack, is_name_of, is_own, own_files, whole_fault, with_whole}
use Rattle.std.{proofs.lemmas.Bool.false_from_ne_true, specs.List.cons_option}
use Rattle.njh_keeper.proofs.AsideLaws.{aside_owned, hub_aside, hub_back, hub_foreign, kept_tried}
use Rattle.njh_keeper.proofs.AsideLaws.{tried_aside, tried_back, tried_foreign, unmarked_is}
use Rattle.njh_keeper.proofs.HubLaws.{Apart, apart, count, length-hub_with, low, name_is, one, own_number, start_is}
use Rattle.njh_keeper.specs.{Opened.own, Refusal.Refusal, SetAside.{all_refused, all_taken_up, all_tried, fresh_hub}}
use Rattle.njh_keeper.specs.SetAside.{file_taken_up, is_aside, names_in, put_back, refusal, refusals}
use Rattle.njh_keeper.specs.SetAside.{row_of, set_aside, spool_tried, taken_up, tried, whole_taken_up}
use Rattle.njh_table.specs.TableFile.{entry_of as entry_in}

-- ---- all of them, if each can be put back

pub all_put_back : (p : Part) (ws : List Whole) → AreBack p ws → put_back p ws ≡ ws
all_put_back p [] back = refl
all_put_back p (w ∷ ws) back =
    ap (λ (o : Option FileFault). elim o as (λ _. List Whole)
    [ None ↦ w ∷ put_back (with_whole p w) ws | Some why ↦ put_back p ws ]) back.0
    ∙ ap (λ vs. w ∷ vs) (all_put_back (with_whole p w) ws back.1)

-- ---- those of one customer

module _ (names : List (List ℕ)) (distinct : Apart names) (c : ℕ) (there : c < length names) where
  abbrev name : List ℕ
  name = get_or names c []

  abbrev mine : Whole → Bool
  mine w = is_own name w.file

  module _ (parts : List Part) (w : Whole) (all left : List Whole) where
    abbrev now : Whole
    now = tried names parts w

    abbrev up : Whole
    up = whole_taken_up w

    abbrev p : Part
    p = part c parts

    abbrev Goes : Type 0
    Goes = cond (mine now) (now ∷ all) all ≡ put_back p (cond (mine up) (up ∷ left) left)

    skipped : mine now ≡ false → (q : Part) → q ≡ p → all ≡ put_back q left
        → cond (mine now) (now ∷ all) all ≡ put_back p left
    skipped other q same rest =
        ap (λ b. cond b (now ∷ all) all) other ∙ rest ∙ ap (λ r. put_back r left) same

    never : mine now ≡ false → mine up ≡ false → (q : Part) → q ≡ p → all ≡ put_back q left → Goes
    never other also q same rest = skipped other q same rest ∙ ap (λ b. put_back p (cond b (up ∷ left) left)) (sym also)

    abbrev chosen : Option FileFault → List Whole
    chosen o = elim o as (λ _. List Whole) [ None ↦ up ∷ put_back (with_whole p up) left | Some why ↦ put_back p left ]

    aside : mine now ≡ false → mine up ≡ true → (why : FileFault) → whole_fault p up ≡ Some why → (q : Part) → q ≡ p
        → all ≡ put_back q left → Goes
    aside other also why fails q same rest =
        skipped other q same rest ∙ sym (ap chosen fails)
        ∙ ap (λ b. put_back p (cond b (up ∷ left) left)) (sym also)

    back : now ≡ up → mine up ≡ true → whole_fault p up ≡ None → (q : Part) → q ≡ with_whole p up
        → all ≡ put_back q left → Goes
    back same also none q is rest =
        ap (λ b. cond b (now ∷ all) all) (ap mine same ∙ also) ∙ (λ i. same i ∷ rest i)
        ∙ ap (λ r. up ∷ put_back r left) is ∙ sym (ap chosen none)
        ∙ ap (λ b. put_back p (cond b (up ∷ left) left)) (sym also)

  module _ (parts : List Part) (many : length parts ≡ length names) (w : Whole) where
    abbrev then_parts : List Part
    then_parts = hub_with names parts (tried names parts w)

    abbrev text : List ℕ
    text = w.file.customer

    -- if it is this customer's
    its_number : mine (whole_taken_up w) ≡ true → number_of names (taken_up text) ≡ Some c
    its_number owned = own_number names (taken_up text) c distinct there owned

    its_fault : mine (whole_taken_up w) ≡ true
        → hub_fault names parts (whole_taken_up w) ≡ whole_fault (part c parts) (whole_taken_up w)
    its_fault owned = ap (λ (o : Option ℕ). elim o as (λ _. Option FileFault)
        [ None ↦ None | Some d ↦ whole_fault (part d parts) (whole_taken_up w) ]) (its_number owned)

    plain : mine w ≡ true → mine (whole_taken_up w) ≡ true
    plain owned = elim (cases_Bool (is_aside text)) [
      | inl marked ↦ absurd (let never = sym (aside_owned name text marked) ∙ owned in cc never)
      | inr bare ↦ ap (λ t. is_name_of t name) (unmarked_is text bare) ∙ owned
    ]

    step : (all left : List Whole) → all ≡ put_back (part c then_parts) left → Goes parts w all left
    step all left rest = by (number_of names (taken_up text)) refl (hub_fault names parts (whole_taken_up w)) refl
        (cases_Bool (mine (whole_taken_up w)))
      where
        by : (a : Option ℕ) → number_of names (taken_up text) ≡ a → (f : Option FileFault)
            → hub_fault names parts (whole_taken_up w) ≡ f
            → (mine (whole_taken_up w) ≡ true) ⊎ (mine (whole_taken_up w) ≡ false) → Goes parts w all left
        by None is f fails (inl owned) = absurd (let other = sym is ∙ its_number owned in cc other)
        by None is f fails (inr other) = never parts w all left (ap mine (tried_foreign names parts w is)
            ∙ false_from_ne_true (mine w) (λ owned. let no = sym (plain owned) ∙ other in cc no)) other
            (part c then_parts) (ap (part c) (hub_foreign names parts w is)) rest
        by (Some d) is None fails (inl owned) =
            back parts w all left (tried_back names parts w d is fails) owned (sym (its_fault owned) ∙ fails)
            (part c then_parts) (ap (part c) (hub_back names parts w d is fails)
            ∙ one names distinct c there parts (whole_taken_up w) many
            ∙ ap (λ b. cond b (with_whole (part c parts) (whole_taken_up w)) (part c parts)) owned) rest
        by (Some d) is None fails (inr other) =
            never parts w all left (ap mine (tried_back names parts w d is fails) ∙ other) other
            (part c then_parts) (ap (part c) (hub_back names parts w d is fails)
            ∙ one names distinct c there parts (whole_taken_up w) many
            ∙ ap (λ b. cond b (with_whole (part c parts) (whole_taken_up w)) (part c parts)) other) rest
        by (Some d) is (Some why) fails (inl owned) =
            aside parts w all left
            (ap mine (tried_aside names parts w d why is fails) ∙ aside_owned name (set_aside text) refl) owned why
            (sym (its_fault owned) ∙ fails)
            (part c then_parts) (ap (part c) (hub_aside names parts w d why is fails)) rest
        by (Some d) is (Some why) fails (inr other) =
            never parts w all left
            (ap mine (tried_aside names parts w d why is fails) ∙ aside_owned name (set_aside text) refl) other
            (part c then_parts) (ap (part c) (hub_aside names parts w d why is fails)) rest

  pub alone : (ws : List Whole) (parts : List Part) → length parts ≡ length names
      → filter mine (all_tried names parts ws) ≡ put_back (part c parts) (filter mine (map whole_taken_up ws))
  alone [] parts many = refl
  alone (w ∷ ws) parts many =
      let then_parts = hub_with names parts (tried names parts w) in
      step parts many w (filter mine (all_tried names then_parts ws)) (filter mine (map whole_taken_up ws))
      (alone ws then_parts (length-hub_with names parts (tried names parts w) ∙ many))

pub own_tried : (table : TableFile) (spool : SpoolContents) → AreDistinct (names_in table) → (c : ℕ)
    → c < length table.customers → own_files (customer_at table c).name (spool_tried table spool)
    ≡ put_back (part_at_open (entry_in (customer_at table c)))
    (own_files (customer_at table c).name (all_taken_up spool))
own_tried table spool distinct c there =
    let names = names_in table in
    let ups : kept (all_taken_up spool) ≡ map whole_taken_up (kept spool) =
    map-map (whole_in (all_taken_up spool)) (λ (e : ℕ × File). (e.0, file_taken_up e.1)) spool.files
    ∙ sym (map-map whole_taken_up (whole_in spool) spool.files) in
    ap (own (customer_at table c).name) (kept_tried names (fresh_hub table) spool)
    ∙ ap (λ n. own n (all_tried names (fresh_hub table) (kept spool))) (sym (name_is table distinct c there))
    ∙ alone names (apart names distinct) c (low table distinct c there) (kept spool) (fresh_hub table)
    (count table distinct)
    ∙ (λ i. put_back (start_is table distinct c there i) (own (name_is table distinct c there i) (sym ups i)))

-- ---- nothing is set aside

none_first : (o : Option Refusal) (rs : List Refusal) → cons_option o rs ≡ [] → (o ≡ None) × (rs ≡ [])
none_first None rs none = (refl, none)
none_first (Some r) rs none = absurd (cc none)

abbrev told_of : Whole → Option FileFault → Option Refusal
told_of w = option_map (λ why. record { id = w.id; file = file_taken_up w.file; fault = why })

no_told : (w : Whole) (o : Option FileFault) → told_of w o ≡ None → o ≡ None
no_told w None none = refl
no_told w (Some why) none = absurd (cc none)

no_refusal : (names : List (List ℕ)) (parts : List Part) (w : Whole) → refusal names parts w ≡ None
    → hub_fault names parts (whole_taken_up w) ≡ None
no_refusal names parts w none = no_told w (hub_fault names parts (whole_taken_up w)) none

none_aside : (names : List (List ℕ)) (parts : List Part) (ws : List Whole)
    → AllByRecursion (λ w. is_aside w.file.customer ≡ false) ws → refusals names parts ws ≡ []
    → all_tried names parts ws ≡ ws
none_aside names parts [] plain none = refl
none_aside names parts (w ∷ ws) plain none =
    let now = tried names parts w in
    let parted = none_first (refusal names parts w) (refusals names (hub_with names parts now) ws) none in
    let same : now ≡ w = by (number_of names (taken_up w.file.customer)) refl (no_refusal names parts w parted.0) in
    λ i. same i ∷ none_aside names (hub_with names parts now) ws plain.1 parted.1 i
  where
    by : (a : Option ℕ) → number_of names (taken_up w.file.customer) ≡ a
        → hub_fault names parts (whole_taken_up w) ≡ None → tried names parts w ≡ w
    by None is fails = tried_foreign names parts w is
    by (Some c) is fails =
        tried_back names parts w c is fails
        ∙ (λ i. record w { file = record w.file { customer = unmarked_is w.file.customer plain.0 i } })

rows_same : (spool : SpoolContents) (es : List (ℕ × File)) → map row_of (map (whole_in spool) es) ≡ es
rows_same spool [] = refl
rows_same spool (e ∷ es) = ap (λ xs. e ∷ xs) (rows_same spool es)

all_plain : (spool : SpoolContents) (es : List (ℕ × File))
    → AllByRecursion (λ (e : ℕ × File). is_aside e.1.customer ≡ false) es
    → AllByRecursion (λ (w : Whole). is_aside w.file.customer ≡ false) (map (whole_in spool) es)
all_plain spool [] plain = tt
all_plain spool (e ∷ es) plain = (plain.0, all_plain spool es plain.1)

pub nothing_aside : (table : TableFile) (spool : SpoolContents)
    → AllByRecursion (λ e. is_aside e.1.customer ≡ false) spool.files → all_refused table spool ≡ []
    → spool_tried table spool ≡ spool
nothing_aside table spool plain none =
    let same = none_aside (names_in table) (fresh_hub table) (kept spool) (all_plain spool spool.files plain) none in
    λ i. record spool { files = (ap (map row_of) same ∙ rows_same spool spool.files) i }
