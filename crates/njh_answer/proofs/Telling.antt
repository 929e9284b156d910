-- One item more of what is told.
use Rattle.std.proofs.Common.{◌≡◌, ℕ, ◌+◌, ◌-◌, ◌≤◌, ◌<◌, Bool, true, false, cond, List, [], ◌∷◌, ◌++◌, length, take}
use Rattle.std.proofs.Common.{drop, map}
use Rattle.std.proofs.Common.{get_or, refl, arith, length-drop, Some, None}
use Rattle.std.proofs.lemmas.List.{map-append, take_more, get_or-drop, get_or_past}
use Rattle.std.proofs.lemmas.List.Elements.{filter-append}
use Rattle.std.proofs.lemmas.List.FromFn.{map-range_with_len_more}
use Rattle.std.proofs.lemmas.List.Sums.{fold-append}
use Rattle.std.proofs.lemmas.Option.{slice_get-get_or, slice_get_past}
use Rattle.std.specs.List.{fold, filter, range_with_len}
use Rattle.std.specs.Prelude.{Result, Err, bytes_eq}
use Rattle.serde_json.specs.Data.{Data}
use Rattle.serde_json.specs.View.{view}
use Rattle.serde_json.specs.declared.value.Value.{Value}
use Rattle.njh_ebcdic.specs.Users.{User}
use Rattle.njh_header.specs.FileNames.{FileName}
use Rattle.njh_spool.specs.CustomerSpool.{CustomerSpool, WholeFile}
use Rattle.njh_table.specs.Entries.{route_of}
use Rattle.njh_table.specs.TableFile.{NamedLine, TableFile}
use Rattle.njh_table.specs.declared.Route.TheVariants.{Here, Unknown}
use Rattle.njh_command.specs.Files.{file_at, no_file}
use Rattle.njh_hub.specs.Files.{said_name, said_owner}
use Rattle.njh_customer.specs.Customer.{no_customer_line}
use Rattle.njh_hub.specs.Views.{hub_line}
use Rattle.njh_hub.specs.WholeHub.{HasLine, Part, no_entry, no_part, part}
use Rattle.njh_table.specs.declared.LineId.{LineId}
use Rattle.njh_request.specs.declared.refusal.RequestRefusal.{RequestRefusal}
use Rattle.njh_request.specs.declared.refusal.RequestRefusal.TheVariants as refusal
use Rattle.njh_arrivals.specs.Arrivals.{Seen, moment_in}
use Rattle.njh_arrivals.specs.declared.arrivals.FileArrival.{FileArrival}
use Rattle.njh_answer.specs.Customers.{customer_told, no_tally, oldest_of, tally_of, tally_with}
use Rattle.njh_answer.specs.Files.{line_by_route}
use Rattle.njh_answer.specs.Lines.{line_told, line_where}
use Rattle.njh_answer.specs.Owners.{is_file_called, owner_by, owner_of_files}
use Rattle.njh_answer.specs.declared.customers.Tally.{Tally}
use Rattle.njh_answer.specs.declared.views.LineView.{LineView}

-- a value more
pub value_more : (before after : List Value) (value : Value) (told : List Data) (d : Data)
    → after ≡ before ++ value ∷ [] → map view before ≡ told → view value ≡ d → map view after ≡ told ++ d ∷ []
value_more before after value told d pushed so_far seen =
    rw (pushed, map-append view before (value ∷ []), so_far, seen) refl

told-more : {A B : Type 0} (f : A → B) (xs : List A) (d : A) (first index : ℕ) → first ≤ index → index < length xs
    → map f (take (index + 1 - first) (drop first xs))
    ≡ map f (take (index - first) (drop first xs)) ++ f (get_or xs index d) ∷ []
told-more f xs d first index ordered within =
    let one : index + 1 - first ≡ (index - first) + 1 = omega arith in
    let there : index - first < length (drop first xs) = omega (arith, length-drop first xs) in
    let same : first + (index - first) ≡ index = omega arith in
    rw (
      one,
      take_more (drop first xs) (index - first) d there,
      get_or-drop first xs (index - first) d,
      same,
      map-append,
    )
    refl

-- a file more
pub files_more : (entry : WholeFile → Data) (s : CustomerSpool) (first index : ℕ) → first ≤ index
    → index < length s.whole
    → map entry (take (index + 1 - first) (drop first s.whole))
    ≡ map entry (take (index - first) (drop first s.whole)) ++ entry (file_at index s) ∷ []
files_more entry s first index ordered within = told-more entry s.whole no_file first index ordered within

ranged-more : {B : Type 0} (f : ℕ → B) (first index : ℕ) → first ≤ index
    → map f (range_with_len first (index + 1 - first)) ≡ map f (range_with_len first (index - first)) ++ f index ∷ []
ranged-more f first index ordered =
    let one : index + 1 - first ≡ (index - first) + 1 = omega arith in
    rw one (map-range_with_len_more f first (index - first) index (omega arith))

-- a customer more
pub customers_more : (tables : TableFile) (parts : List Part) (seen : Seen) (views : List LineView) (first place : ℕ)
    → first ≤ place
    → map (customer_told tables parts seen views) (range_with_len first (place + 1 - first))
    ≡ map (customer_told tables parts seen views) (range_with_len first (place - first))
    ++ customer_told tables parts seen views place ∷ []
customers_more tables parts seen views first place ordered =
    ranged-more (customer_told tables parts seen views) first place ordered

oldest-case : (files : List WholeFile) (seen : List FileArrival) → 0 < length files
    → oldest_of files seen ≡ moment_in (get_or files 0 no_file).number seen
oldest-case [] seen there = absurd (omega (arith, there))
oldest-case (f ∷ files) seen there = refl

-- the first file, if there is one
pub oldest_first : (s : CustomerSpool) (seen : List FileArrival) → 0 < length s.whole
    → oldest_of s.whole seen ≡ moment_in (file_at 0 s).number seen
oldest_first s seen there = oldest-case s.whole seen there

-- and none if there is none
pub oldest_none : (files : List WholeFile) (seen : List FileArrival) → length files ≡ 0 → oldest_of files seen ≡ None
oldest_none [] seen none = refl
oldest_none (f ∷ files) seen none = absurd (omega (arith, none))

-- a line more
pub lines_more : (named : List NamedLine) (c : ℕ) (p : Part) (views : List LineView) (first index : ℕ) → first ≤ index
    → map (line_told named c p views) (range_with_len first (index + 1 - first))
    ≡ map (line_told named c p views) (range_with_len first (index - first)) ++ line_told named c p views index ∷ []
lines_more named c p views first index ordered = ranged-more (line_told named c p views) first index ordered

-- the state of one file more
pub tally_more : (s : CustomerSpool) (index : ℕ) → index < length s.whole
    → tally_of (take (index + 1) s.whole) ≡ tally_with (file_at index s).state (tally_of (take index s.whole))
tally_more s index there =
    rw (
      take_more s.whole index no_file there,
      fold-append (λ (t : Tally) (f : WholeFile). tally_with f.state t) no_tally (take index s.whole)
          (get_or s.whole index no_file ∷ []),
    ) refl

owner-case : (b : Bool) (o : Result User RequestRefusal) (f : WholeFile)
    → fold owner_by o (map (λ (x : WholeFile). said_owner x.records) (cond b (f ∷ []) []))
    ≡ cond b (owner_by o (said_owner f.records)) o
owner-case true o f = refl
owner-case false o f = refl

-- the owner of one file more
pub owner_more : (name : FileName) (s : CustomerSpool) (index : ℕ) → index < length s.whole
    → owner_of_files name (take (index + 1) s.whole)
    ≡ cond (is_file_called name (said_name (file_at index s).records))
    (owner_by (owner_of_files name (take index s.whole)) (said_owner (file_at index s).records))
    (owner_of_files name (take index s.whole))
owner_more name s index there =
    let f = get_or s.whole index no_file in
    let p : WholeFile → Bool = λ x. is_file_called name (said_name x.records) in
    let own : WholeFile → User = λ x. said_owner x.records in
    rw (
      take_more s.whole index no_file there,
      filter-append p (take index s.whole) (f ∷ []),
      map-append own (filter p (take index s.whole)) (cond (p f) (f ∷ []) []),
      fold-append owner_by (Err (refusal.NoFile name)) (map own (filter p (take index s.whole)))
          (map own (cond (p f) (f ∷ []) [])),
    )
    (owner-case (p f) (owner_of_files name (take index s.whole)) f)

-- the line of the hub, where it has it
pub line_here : (parts : List Part) (id : LineId) → HasLine parts id
    → line_where id.number (part id.customer parts) ≡ Some (hub_line id parts)
line_here parts id there =
    slice_get-get_or (part id.customer parts).customer.lines id.number no_customer_line there

pub line_nowhere : (parts : List Part) (id : LineId) → (HasLine parts id → ⊥)
    → line_where id.number (part id.customer parts) ≡ None
line_nowhere parts id missing =
    slice_get_past (part id.customer parts).customer.lines id.number (omega (arith, missing))

-- no customer has no blocks
pub not_there : (parts : List Part) (c : ℕ) → (c < length parts → ⊥) → part c parts ≡ no_part
not_there parts c missing = get_or_past parts c no_part (omega (arith, missing))

no-line-case : (lines : List NamedLine) (b : Bool) → line_by_route lines (cond b Here Unknown) ≡ None
no-line-case lines true = refl
no-line-case lines false = refl

-- no customer has no routes
pub no_line_there : (lines : List NamedLine) (node : List ℕ) → line_by_route lines (route_of no_entry node) ≡ None
no_line_there lines node = no-line-case lines (bytes_eq no_entry.hub node)
