-- A hub that was just opened from a spool file: what the keeper knows of it, and what has come on its lines.
use Rattle.njh_keeper.proofs.Words
use Words.{◌≡◌, ◌≢◌, ℕ, zero, suc, ◌<◌, List, [], ◌∷◌, length, get_or, map, remove, Option, Some, None, refl, sym, ap}
use Words.{subst, ◌∙◌, arith, AllByRecursion, AllZip, fold, SpoolContents, Whole, AreDistinct, NamedCustomer, TableFile}
use Words.{KeptFile, HasShortRests, rest_at, part_with_file, Part, no_part, part_at_open, AreNamedApart, HasSpool}
use Words.{Knows, HasBegun, IsOpened, GoesOn, IsUpToDate, Numbers, OwnFiles, file_in, hub_opened, own_files}
use Words.{part_opened, with_whole, kept_of, own_of, Mirrored, left_in, map-map, length-map, get_or-map}
use Rattle.{njh_table.specs.TableFile.entry_of, njh_customer.specs.Growing.IsShortRest, njh_keeper.proofs.HubLaws.apart}
use Rattle.njh_keeper.proofs.{IdleLines.no_rests, LeftLaws.left_of_parts, ListLaws.{all-map, all_of}}
use Rattle.njh_keeper.specs.declared.own_files.OwnFiles as own_files

-- ---- what has come of a line's next frame

-- a file that is put back leaves that as it is
still_short : (p : Part) (w : Whole) → HasShortRests p → HasShortRests (with_whole p w)
still_short p w short l = subst IsShortRest (sym (ap (rest_at l) (same (file_in w.file w.records)))) (short l)
  where
    same : (f : Option KeptFile) → (elim f as (λ _. Part) [ None ↦ p | Some back ↦ part_with_file back p ]).rests
        ≡ p.rests
    same None = refl
    same (Some back) = refl

part_rests : (ws : List Whole) (p : Part) → HasShortRests p → HasShortRests (fold with_whole p ws)
part_rests [] p short = short
part_rests (w ∷ ws) p short = part_rests ws (with_whole p w) (still_short p w short)

-- on each customer's lines nothing
pub opened_rests : (table : TableFile) (spool : SpoolContents) → AllByRecursion HasShortRests (hub_opened table spool)
opened_rests table spool =
    let opened : NamedCustomer → Part = λ c. part_opened (entry_of c) (own_files c.name spool) in
    all-map HasShortRests opened table.customers (all_of (λ c. HasShortRests (opened c)) (λ c.
    part_rests (own_files c.name spool) (part_at_open (entry_of c))
    (λ l. subst IsShortRest (sym (no_rests (entry_of c).lines l)) tt)) table.customers)

-- ---- what the keeper knows

pub zip_by_place : {X Y : Type 0} (R : X → Y → Type 0) (xs : List X) (ys : List Y) (d : Y) → length xs ≡ length ys
    → ((c : ℕ) → (x : X) → c < length xs → x ≡ get_or xs c x → R x (get_or ys c d)) → AllZip R xs ys
zip_by_place R [] [] d long each = tt
zip_by_place R [] (y ∷ ys) d long each = absurd (omega (arith, long))
zip_by_place R (x ∷ xs) [] d long each = absurd (omega (arith, long))
zip_by_place R (x ∷ xs) (y ∷ ys) d long each = (
  each 0 x (omega arith) refl,
  zip_by_place R xs ys d (omega (arith, long)) (λ c z low is. each (suc c) z (omega (arith, low)) is),
)

pub all_by_place : {X : Type 0} (P : X → Type 0) (xs : List X)
    → ((i : ℕ) → (x : X) → i < length xs → x ≡ get_or xs i x → P x) → AllByRecursion P xs
all_by_place P [] each = tt
all_by_place P (x ∷ xs) each = (
  each 0 x (omega arith) refl,
  all_by_place P xs (λ i y low is. each (suc i) y (omega (arith, low)) is),
)

pub others_by_place : {X : Type 0} (P : X → Type 0) (xs : List X) (c : ℕ)
    → ((i : ℕ) → (x : X) → i < length xs → x ≡ get_or xs i x → i ≢ c → P x) → AllByRecursion P (remove xs c)
others_by_place P [] zero each = tt
others_by_place P [] (suc c) each = tt
others_by_place P (x ∷ xs) zero each = all_by_place P xs
    (λ i y low is. each (suc i) y (omega (arith, low)) is (λ same. omega (arith, same)))
others_by_place P (x ∷ xs) (suc c) each = (
  each 0 x (omega arith) refl (λ same. omega (arith, same)),
  others_by_place P xs c (λ i y low is other. each (suc i) y (omega (arith, low)) is
      (λ same. other (omega (arith, same)))),
)

-- no file is remembered that isn't whole
opened_spool : (names : List (List ℕ)) (hub : List Part) (t : SpoolContents) (c : ℕ) (own : OwnFiles)
    → IsOpened names hub t c own → HasSpool t own (get_or hub c no_part).customer.spool
opened_spool names hub t c own opened =
    let now = (get_or hub c no_part).customer.spool in
    record {
      arrived = opened.owned.arrived;
      mirrored = opened.mirrored;
      up_to_date = subst (AllByRecursion (IsUpToDate now)) (sym opened.owned.partial) tt;
      go_on = subst (AllByRecursion (GoesOn now t)) (sym opened.owned.partial) tt;
    }

-- all of a hub that was just opened, and which customer is which
pub begun_is_known : (names : List (List ℕ)) (hub : List Part) (owns : List OwnFiles) (w : Numbers) (t : SpoolContents)
    → HasBegun names hub owns w t → AreDistinct names → length names ≡ length hub
    → Knows w owns (map (λ p. p.customer.spool) hub) t × AreNamedApart owns
begun_is_known names hub owns w t begun distinct long = (
  record {
    ordered = begun.ordered;
    below = begun.below;
    apart = begun.apart;
    each = zip_by_place (HasSpool t) owns (map (λ p. p.customer.spool) hub) no_part.customer.spool
        (begun.count ∙ long ∙ sym (length-map hub (λ (p : Part). p.customer.spool)))
        (λ c own low is. subst (HasSpool t own) (sym (get_or-map (λ (p : Part). p.customer.spool) hub c no_part
        no_part.customer.spool (omega (arith, low, begun.count, long))))
        (opened_spool names hub t c own (begun.each c own low is)));
  },
  λ c own there is. others_by_place (λ o. o.name ≢ own.name) owns c (λ i o low at other same. other
      (apart names distinct i c (omega (arith, begun.count, low)) (omega (arith, begun.count, there))
      (sym (begun.each i o low at).owned.name_is ∙ same ∙ (begun.each c own there is).owned.name_is))),
)

-- what a crash may leave then
pub left_after : (names : List (List ℕ)) (hub : List Part) (owns : List own_files.OwnFiles) (w : Numbers)
    (t : SpoolContents) → HasBegun names hub (map own_of owns) w t → length names ≡ length hub
    → left_in (map (λ own. own.name) owns) t ≡ kept_of hub
left_after names hub owns w t begun long =
    ap (λ ns. left_in ns t) (sym (map-map (λ (own : OwnFiles). own.name) own_of owns))
    ∙ left_of_parts (λ p. p.customer.spool.whole) t (map own_of owns) hub
    (zip_by_place (λ own p. Mirrored t own p.customer.spool.whole) (map own_of owns) hub no_part (begun.count ∙ long)
    (λ c own low is. (begun.each c own low is).mirrored))
