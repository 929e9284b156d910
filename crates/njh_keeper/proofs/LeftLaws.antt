-- What a spool file that has a hub's whole files leaves of them.
use Rattle.njh_keeper.proofs.Words
use Words.{◌≡◌, ℕ, List, [], ◌∷◌, length, get_or, drop, map, Option, Some, refl, sym, ap, subst, ◌∙◌, arith}
use Words.{AllZip, filter_map, Kind, In, Out, File, SpoolContents, Whole, contents_in, records_of}
use Words.{WholeFile, kept_file, ReadsAs, own_rows, AllBeside, none_beside, one_beside, IsKept, KeptWhole}
use Words.{Mirrored, OwnFiles, left_in, file_in, kind_of_word, kind_word, own_files, whole_in}
use Rattle.njh_keeper.proofs.{RecordLaws.file_reads_back, RowLaws.own_files_are, SentLaws.{are_rerouted, rerouted_long}}

word_back : (kind : Kind) → kind_of_word (kind_word kind) ≡ Some kind
word_back In = refl
word_back Out = refl

-- a file that is kept is read as the hub has it
reads_as : (s : SpoolContents) (k : KeptWhole) (e : ℕ × File) (f : WholeFile) → IsKept s k e f
    → ReadsAs s e (kept_file f)
reads_as s k e f one =
    let stored = one.stored in
    let long : length stored.before ≡ e.1.records =
    sym (rerouted_long f.kind stored.before f.records
    (are_rerouted f.kind e.1.to_node stored.before f.records stored.are)) ∙ sym one.row.count in
    subst (λ n. file_in e.1 (contents_in (records_of n s)) ≡ Some (kept_file f)) (sym one.row.key)
    (file_reads_back k.key stored.before s stored.stored e.1 long stored.fits f.kind
    (ap kind_of_word one.row.kind ∙ word_back f.kind) f.records stored.are
    ∙ (λ i. Some (record { kind = f.kind; held = one.row.held i; records = f.records })))

read_back : (s : SpoolContents) (ks : List KeptWhole) (es : List (ℕ × File)) (fs : List WholeFile)
    → AllBeside (IsKept s) ks es fs
    → map (λ w. file_in w.file w.records) (map (whole_in s) es) ≡ map Some (map kept_file fs)
read_back s _ _ _ none_beside = refl
read_back s _ _ _ (one_beside k e f ks es fs one more) = λ i. reads_as s k e f one i ∷ read_back s ks es fs more i

pub mirrored_is_read_back : (s : SpoolContents) (own : OwnFiles) (files : List WholeFile) → Mirrored s own files
    → map (λ w. file_in w.file w.records) (own_files own.name s) ≡ map Some (map kept_file files)
mirrored_is_read_back s own files all = ap (map (λ (w : Whole). file_in w.file w.records)) (own_files_are own.name s)
    ∙ read_back s own.whole (own_rows own.name s) files all

-- ---- all customers

pub found_all : {X Y : Type 0} (f : X → Option Y) (xs : List X) (ys : List Y) → map f xs ≡ map Some ys
    → filter_map f xs ≡ ys
found_all f [] [] all = refl
found_all f [] (y ∷ ys) all = absurd (let long = ap length all in omega (arith, long))
found_all f (x ∷ xs) [] all = absurd (let long = ap length all in omega (arith, long))
found_all {X} {Y} f (x ∷ xs) (y ∷ ys) all =
    let first : f x ≡ Some y = ap (λ (os : List (Option Y)). get_or os 0 (f x)) all in
    rw first (ap (λ zs. y ∷ zs) (found_all f xs ys (ap (λ (os : List (Option Y)). drop 1 os) all)))

pub some_of : {X : Type 0} (xs ys : List X) → map Some xs ≡ map Some ys → xs ≡ ys
some_of xs ys same = sym (found_all Some xs xs refl) ∙ found_all Some xs ys same

-- where each customer has the files of a part of a hub
pub left_of_parts : {P : Type 0} (whole : P → List WholeFile) (s : SpoolContents) (owns : List OwnFiles)
    (parts : List P) → AllZip (λ own p. Mirrored s own (whole p)) owns parts
    → left_in (map (λ own. own.name) owns) s ≡ map (λ p. map kept_file (whole p)) parts
left_of_parts whole s [] [] each = refl
left_of_parts whole s [] (p ∷ parts) each = absurd each
left_of_parts whole s (own ∷ owns) [] each = absurd each
left_of_parts whole s (own ∷ owns) (p ∷ parts) each =
    let first = found_all (λ (w : Whole). file_in w.file w.records) (own_files own.name s) (map kept_file (whole p))
    (mirrored_is_read_back s own (whole p) each.0) in
    λ i. first i ∷ left_of_parts whole s owns parts each.1 i
