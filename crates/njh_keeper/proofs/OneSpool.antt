-- The rows of a spool file determine what it holds.
use Rattle.std.proofs.Common.{pos, ◌≡◌, ℕ, ◌==◌, Bool, true, false, List, [], ◌∷◌, map, refl, sym, ap, ◌∙◌, ◌⊎◌, inl}
use Rattle.{std.proofs.Common.{inr, subst, arith}, sqlite.specs.{Order.{Row, column}, State.Survives, Store.Ghosts}}
use Rattle.{sqlite.specs.declared.types.Value.{Value, TheVariants.{Int, Text, Blob}}, sqlite_trees.specs.Tree.Trees}
use Rattle.njh_spoolfile.specs.{CommitState.{CommitState, Stands}, Kept.{file_row, flag, record_row, File, Record}}
use Rattle.{njh_spoolfile.specs.{Kept.{SpoolContents, Holds}, Shelf.shown}, njh_spool.specs.Restoring.KeptFile}
use Rattle.njh_keeper.specs.Keeper.{Keeping, MayLeave, left_in}

-- ---- a row is read back

abbrev integer : Value → ℕ
integer (Int (pos n)) = n
integer v = 0

abbrev text : Value → List ℕ
text (Text t) = t
text v = []

abbrev blob : Value → List ℕ
blob (Blob b) = b
blob v = []

abbrev file_from : Row → ℕ × File
file_from row = (
  integer (column row 0),
  record {
    customer = text (column row 2);
    key = integer (column row 3);
    kind = text (column row 4);
    job = text (column row 5);
    number = integer (column row 6);
    owner_node = text (column row 7);
    owner_user = text (column row 8);
    to_node = text (column row 9);
    to_user = text (column row 10);
    held = integer (column row 11) == 1;
    records = integer (column row 12);
    blocks = integer (column row 13);
    came = integer (column row 14);
  },
)

abbrev record_from : Row → ℕ × Record
record_from row = (
  integer (column row 0),
  record {
    key = integer (column row 2);
    place = integer (column row 3);
    srcb = integer (column row 4);
    bytes = blob (column row 5);
  },
)

flag_back : (held : Bool) → (integer (Int (flag held)) == 1) ≡ held
flag_back true = refl
flag_back false = refl

-- ---- all of them

all_back : {X : Type 0} (shown : X → Row) (from : Row → X) → ((x : X) → from (shown x) ≡ x) → (xs : List X)
    → map from (map shown xs) ≡ xs
all_back shown from back [] = refl
all_back shown from back (x ∷ xs) = λ i. back x i ∷ all_back shown from back xs i

one_list : {X : Type 0} (shown : X → Row) (from : Row → X) → ((x : X) → from (shown x) ≡ x)
    → (xs ys : List X) (rows : List Row) → rows ≡ map shown xs → rows ≡ map shown ys → xs ≡ ys
one_list shown from back xs ys rows one other = sym (all_back shown from back xs) ∙ ap (map from) (sym one ∙ other)
    ∙ all_back shown from back ys

pub one_spool : (s t : SpoolContents) (trees : Trees) → Holds s trees → Holds t trees → s ≡ t
one_spool s t trees one other =
    let files = one_list file_row file_from (λ e i. (e.0, record e.1 { held = flag_back e.1.held i })) s.files t.files
    (trees 1) one.files other.files in
    let records = one_list record_row record_from (λ _. refl) s.records t.records (trees 2) one.records other.records in
    λ i. record { files = files i; records = records i }

module _ {S : Type 0} (g : Ghosts S) where
  -- only what was committed
  pub committed_is_left : (keeper : Keeping S) (s : CommitState) (left : List (List KeptFile))
      → Stands s (shown g keeper.store)
      → ((trees : Trees) → (shown g keeper.store).may_leave trees → trees ≡ (shown g keeper.store).committed.trees)
      → MayLeave g keeper left → left ≡ left_in keeper.names s.kept
  committed_is_left keeper s left stands only m =
      m.is ∙ ap (left_in keeper.names) (one_spool m.spool s.kept (shown g keeper.store).committed.trees
      (subst (Holds m.spool) (only m.trees m.may) m.holds) stands.kept)

  -- what might be left before, or all that waits, where it is committed
  pub commit_leaves : (old new : Keeping S) → new.names ≡ old.names → Survives (shown g old.store) (shown g new.store)
      (λ trees. trees ≡ (shown g old.store).now.trees) → (left : List (List KeptFile)) → MayLeave g new left
      → MayLeave g old left ⊎ ((now : SpoolContents) → Holds now (shown g old.store).now.trees
      → left ≡ left_in old.names now)
  commit_leaves old new names survives left m =
      let is : left ≡ left_in old.names m.spool = m.is ∙ ap (λ ns. left_in ns m.spool) names in
      elim (survives.crash m.clean m.trees m.may) [
        | inl may ↦ inl (record {
          clean = omega (arith, survives.clean, m.clean);
          trees = m.trees;
          may = may;
          spool = m.spool;
          holds = m.holds;
          is = is;
        })
        | inr made ↦ inr (λ now holds. is ∙ ap (left_in old.names)
            (one_spool m.spool now (shown g old.store).now.trees (subst (Holds m.spool) made m.holds) holds))
      ]
