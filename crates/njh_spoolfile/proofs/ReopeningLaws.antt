-- What is found by the next open.
use Rattle.std.proofs.Common.{◌≡◌, [], inl, inr, ◌<◌, length, IsTrue, sym, ap, subst, ◌∙◌, arith}
use Rattle.std.proofs.Math.Logic.{∥∥₁_elim, ∥∥₁_map}
use Rattle.sqlite.specs.Recovery.{Image}
use Rattle.sqlite.specs.Tree.{Trees}
use Rattle.sqlite.specs.Schema.{Schema}
use Rattle.sqlite.specs.Closing.{HoldsAlone, IsCopied}
use Rattle.sqlite.specs.Files.{AreFoundIn, HoldsDatabase, IsEmpty, file_state}
use Rattle.sqlite.specs.Held.{Held}
use Rattle.sqlite_catalog.specs.Listing.{IsSound}
use Rattle.sqlite_trees.specs.Props.{Trees-set}
use Rattle.sqlite_disk.specs.declared.Disk.{Ghosts}
use Rattle.sqlite_disk.specs.declared.Files.{Files}
use Rattle.sqlite_store.specs.declared.store.FileStore.{FileStore}
use Rattle.sqlite_store.specs.FileStore.{state, view, recovers}
use Rattle.sqlite.proofs.Theorems.{opens_again}
use Rattle.njh_spoolfile.specs.Kept.{SpoolContents, Holds, HoldsAs, IsOf, no_files}
use Rattle.njh_spoolfile.specs.Tables.{spool_schema, no_tables}
use Rattle.njh_spoolfile.specs.Origin.{IsFoundAlone, IsFoundIn, StandsAlone}
use Rattle.njh_spoolfile.specs.Reopened.{OpensFrom, IsOrBecomes}
use Rattle.njh_spoolfile.specs.declared.versions.Version.{Version}
use Rattle.njh_spoolfile.specs.declared.versions.Version.TheVariants.{Older, Current}
use Rattle.njh_spoolfile.proofs.NewTables.{no_spool, takes_over}
use Rattle.njh_spoolfile.proofs.VersionLaws.{not_both}

-- what holds a spool has tables
has_tables : (version : Version) (spool : SpoolContents) (found : Trees) → HoldsAs version spool found
    → ¬ IsSound no_tables found
has_tables version spool found held bare = no_spool found no_tables bare
    (λ e. absurd (let none = ap (λ (s : Schema). s.tables) e in cc)) version spool held

-- what is a spool stays as it is
still : (spool : SpoolContents) (found now : Trees) → Holds spool found → IsOrBecomes found now → now ≡ found
still spool found now held (inl same) = same.0
still spool found now held (inr (inl made)) = absurd (has_tables Current spool found held made.0)
still spool found now held (inr (inr taken)) = absurd (not_both (found 0) taken.older held.version)

older_is_taken : (spool : SpoolContents) (found now : Trees) → HoldsAs Older spool found → IsOrBecomes found now
    → Holds spool now
older_is_taken spool found now held (inl same) = absurd (not_both (found 0) held.version same.1)
older_is_taken spool found now held (inr (inl made)) = absurd (has_tables Older spool found held made.0)
older_is_taken spool found now held (inr (inr taken)) = takes_over spool found now taken.sets held

pub older_found : (image : Image) (db : Trees) (spool : SpoolContents) → HoldsDatabase image db
    → HoldsAs Older spool db → IsFoundIn image spool
older_found image db spool has held = λ now sound o.
    older_is_taken spool db now held (subst (λ t. IsOrBecomes t now) (o.holds db has) o.kept)

pub opened : (spool : SpoolContents) (image : Image) (db now : Trees) → Holds spool db → HoldsDatabase image db
    → OpensFrom image now → now ≡ db
opened spool image db now held has o = still spool db now held (subst (λ t. IsOrBecomes t now) (o.holds db has) o.kept)

pub found_again : {D : Type 0} {g : Ghosts D} (it : FileStore D g) → IsTrue (view it).is_numbered
    → ((trees : Trees) → recovers it trees → ((spool : SpoolContents) × Holds spool trees))
    → (left : Image) → (state it).may_leave left → (now : Trees) → OpensFrom left now
    → ∥ ((trees : Trees) × recovers it trees × (now ≡ trees)) ∥₁
found_again it numbered spools left may now o =
    ∥∥₁_map (opens_again it numbered (λ db r. (spool_schema, (spools db r).1.sound)) left may)
    (λ r. (r.0, r.1, opened (spools r.0 r.1).0 left r.0 now (spools r.0 r.1).1 r.2 o))

pub committed_again : {D : Type 0} {g : Ghosts D} (it : FileStore D g) → IsTrue (view it).is_numbered
    → ((trees : Trees) → recovers it trees → trees ≡ (view it).committed)
    → (spool : SpoolContents) → Holds spool (view it).committed → (left : Image) → (state it).may_leave left
    → (now : Trees) → OpensFrom left now → Holds spool now
committed_again it numbered settled spool held left may now o =
    let all = found_again it numbered (λ trees r. (spool, subst (Holds spool) (sym (settled trees r)) held)) left may
    now o in
    subst (Holds spool) (sym (∥∥₁_elim all (Trees-set _ _) (λ r. r.2 ∙ settled r.0 r.1))) held

pub leaves_spools : {D : Type 0} {g : Ghosts D} (it : FileStore D g) → IsTrue (view it).is_numbered
    → ((trees : Trees) → recovers it trees → ((spool : SpoolContents) × Holds spool trees))
    → (left : Image) → (state it).may_leave left → ∥ ((trees : Trees) × recovers it trees × HoldsDatabase left trees) ∥₁
leaves_spools it numbered spools = opens_again it numbered (λ db r. (spool_schema, (spools db r).1.sound))

-- ---- what a close leaves

found_in : (spool : SpoolContents) (image : Image) (db : Trees) → Holds spool db → ∥ HoldsDatabase image db ∥₁
    → IsFoundIn image spool
found_in spool image db held all = λ now sound o.
    subst (Holds spool) (sym (∥∥₁_elim all (Trees-set _ _) (λ has. opened spool image db now held has o))) held

found_alone : (spool : SpoolContents) (image : Image) (db : Trees) → Holds spool db → HoldsAlone image db
    → IsFoundAlone image spool
found_alone spool image db held has =
    (found_in spool image db held has.both, found_in spool (record image { log = [] }) db held has.alone)

pub stands_alone : {D : Type 0} {g : Ghosts D} (conn : Held (FileStore D g)) (files : Files D) → IsCopied conn files
    → (spool : SpoolContents) → Holds spool (file_state conn).committed.trees → StandsAlone g files spool
stands_alone conn files is spool held = record {
  seen = found_alone spool _ _ held is.seen;
  left = λ image may. found_alone spool image _ held (is.left image may);
}

-- ---- a file without a byte

no_rows : (image : Image) (found : Trees) → image.db ≡ [] → AreFoundIn image found → IsEmpty found
no_rows image found none (inl read) =
    absurd (let n : 0 < length image.db = read.3.found.present in let e = ap length none in omega (arith, n, e))
no_rows image found none (inr made) = made.1

is_made : (found now : Trees) → found 0 ≡ [] → IsOrBecomes found now → Holds no_files now
is_made found now none (inl same) =
    absurd (let e = subst (IsOf Current) none same.1 in cc)
is_made found now none (inr (inl made)) = made.1
is_made found now none (inr (inr taken)) =
    absurd (let e = subst (IsOf Older) none taken.older in cc)

pub empty_found : (image : Image) → image.db ≡ [] → IsFoundIn image no_files
empty_found image none = λ now sound o.
    is_made o.found now ((no_rows image o.found none o.reads).0 0 (omega arith)) o.kept
