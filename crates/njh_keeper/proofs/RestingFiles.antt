-- A customer's files where none is being sent: what is kept of them, and that it can be put back.
use Rattle.njh_keeper.proofs.Words
use Words.{◌≡◌, ℕ, ◌+◌, ◌≤◌, ◌&&◌, ◌||◌, nat_le, nat_lt, Bool, true, false, cond, List, [], ◌∷◌, ◌++◌, length, map}
use Words.{get_or, drop, Option, Some, None, is_some, refl, sym, ap, ◌∙◌, arith, lt-ltb, length-map, sum_by_push}
use Words.{AllByRecursion, User, Kind, Stored, destination_of, HasHeaders, Whole, CustomerEntry, CustomerSpool}
use Words.{WholeFile, cost, used_blocks, BadHeader, FilesOver, QuotaOver, Ready, Held, Sending, KeptFile}
use Words.{has_blocks_for, has_headers, restore_fault, destination_unrouted, has_lost_route, held_file, waits_in_state}
use Words.{part_with_file, is_held, kept_file, file_at_rest, AreBack, file_in, as_opened}
use Rattle.std.proofs.lemmas.{Bool.le-leb, List.{length-append, Elements.Contains-append_right, Sums.sum_by-cons}}
use Rattle.{std.specs.{List.Contains, Prelude.sum_by}, njh_header.specs.{FileHeaders.file_owner, FileNames.FileName}}
use Rattle.njh_spool.specs.{Restoring.{kept, limits_fault}, declared.State.{State, TheVariants.Refused}}
use Rattle.{njh_customer.specs.{InOrder.{at_rest, state_at_rest}, Part.Part}, njh_keeper.proofs.ListLaws.all-map}
use Rattle.njh_keeper.proofs.{ListLaws.all_weaker, OpenedLaws.{back_with, held_back, new}}

-- ---- none is being sent

-- of a file that isn't being sent: Held where it was or has no route, and else it may go
state_case : (n : ℕ) (kind : Kind) (records : List Stored) (s : State) (unrouted : Bool) → (s ≡ Sending → ⊥)
    → (let f : WholeFile = record { number = n; kind = kind; records = records; state = s } in
    file_at_rest (cond (waits_in_state s && unrouted) (held_file f) f))
    ≡ record { kind = kind; records = records; state = cond (is_held s || unrouted) Held Ready }
state_case n kind records Ready true isnt = refl
state_case n kind records Ready false isnt = refl
state_case n kind records Held true isnt = refl
state_case n kind records Held false isnt = refl
state_case n kind records Refused true isnt = refl
state_case n kind records Refused false isnt = refl
state_case n kind records Sending unrouted isnt = absurd (isnt refl)

abbrev pub AreNotSent : List WholeFile → Type 0
AreNotSent files = (f : WholeFile) → Contains files f → f.state ≡ Sending → ⊥

pub lost_files : (entry : CustomerEntry) (fs : List WholeFile) → AreNotSent fs
    → map file_at_rest (map (held_back entry) fs) ≡ map (as_opened entry) (map kept_file fs)
lost_files entry [] none = refl
lost_files entry (f ∷ fs) none =
    let here = state_case f.number f.kind f.records f.state
    (destination_unrouted entry (destination_of f.kind f.records)) (none f (0, omega arith, refl)) in
    let rest = lost_files entry fs (λ g at. none g (Contains-append_right (f ∷ []) fs g at)) in
    λ i. here i ∷ rest i

-- what is kept of files at rest is what is kept of them
kept_rest : (fs : List WholeFile) → map kept_file (map at_rest fs) ≡ map kept_file fs
kept_rest [] = refl
kept_rest (f ∷ fs) = λ i. kept f.kind (state_held f.state i) f.records ∷ kept_rest fs i
  where
    state_held : (s : State) → is_held (state_at_rest s) ≡ is_held s
    state_held Ready = refl
    state_held Held = refl
    state_held Refused = refl
    state_held Sending = refl

pub same_kept : (fs gs : List WholeFile) → map at_rest fs ≡ map at_rest gs → map kept_file fs ≡ map kept_file gs
same_kept fs gs same = sym (kept_rest fs) ∙ ap (map kept_file) same ∙ kept_rest gs

-- ---- what is kept can be put back

-- all of these have headers that read
abbrev AllRead : List KeptFile → Type 0
AllRead fs = AllByRecursion (λ (f : KeptFile). has_headers f.kind f.records ≡ true) fs

pub kept_read : (fs : List WholeFile) → AllByRecursion (λ (f : WholeFile). HasHeaders f.kind f.records) fs
    → AllRead (map kept_file fs)
kept_read fs have =
    all-map (λ (f : KeptFile). has_headers f.kind f.records ≡ true) kept_file fs
    (all_weaker (λ (f : WholeFile). HasHeaders f.kind f.records) (λ f. has_headers f.kind f.records ≡ true) (λ f has.
    ap (λ (o : Option FileName). is_some o
    && (is_some (file_owner f.records) && is_some (destination_of f.kind f.records))) has.named
    ∙ ap (λ (o : Option User). is_some o && is_some (destination_of f.kind f.records)) has.owned
    ∙ ap (λ (o : Option User). is_some o) has.goes) fs have)

abbrev pub cost_of : WholeFile → ℕ
cost_of f = cost f.records

abbrev pub cost_of_kept : KeptFile → ℕ
cost_of_kept f = cost f.records

costs_same : {X Y : Type 0} (f : Y → ℕ) (g : X → Y) (h : X → ℕ) → ((x : X) → f (g x) ≡ h x) → (xs : List X)
    → sum_by f (map g xs) ≡ sum_by h xs
costs_same f g h same [] = refl
costs_same f g h same (x ∷ xs) =
    let here = sum_by-cons f (g x) (map g xs) in
    omega (arith, here, same x, costs_same f g h same xs, sum_by-cons h x xs)

pub kept_costs : (fs : List WholeFile) → sum_by cost_of_kept (map kept_file fs) ≡ sum_by cost_of fs
kept_costs = costs_same cost_of_kept kept_file cost_of (λ f. refl)

held_costs : (entry : CustomerEntry) (fs : List WholeFile)
    → sum_by cost_of (map (held_back entry) fs) ≡ sum_by cost_of fs
held_costs entry = costs_same cost_of (held_back entry) cost_of (λ f. same_cost f (has_lost_route entry f))
  where
    same_cost : (f : WholeFile) (b : Bool) → cost_of (cond b (held_file f) f) ≡ cost_of f
    same_cost f true = refl
    same_cost f false = refl

-- there is room for these
pub record HaveRoom (s : CustomerSpool) (fs : List KeptFile) : Type 0 where
  pub blocks : used_blocks s + sum_by cost_of_kept fs ≤ s.quota
  pub files : length s.whole + length s.partial + length fs ≤ s.limit

room_left : (f : KeptFile) (fs : List KeptFile) (p : Part) → HaveRoom p.customer.spool (f ∷ fs)
    → HaveRoom (part_with_file f p).customer.spool fs
room_left f fs p room =
    let files : List WholeFile = p.customer.spool.whole ++ new p f ∷ [] in
    record {
      blocks = omega (
        arith,
        room.blocks,
        held_costs p.customer.entry files,
        sum_by_push cost_of p.customer.spool.whole (new p f),
        sum_by-cons cost_of_kept f fs,
      );
      files = omega (
        arith,
        room.files,
        length-map files (held_back p.customer.entry),
        length-append p.customer.spool.whole (new p f ∷ []),
      );
    }

none_refused : (f : KeptFile) (fs : List KeptFile) (s : CustomerSpool) → has_headers f.kind f.records ≡ true
    → HaveRoom s (f ∷ fs) → restore_fault f s ≡ None
none_refused f fs s reads room =
    let files : nat_lt (length s.whole + length s.partial) s.limit ≡ true =
    lt-ltb (length s.whole + length s.partial) s.limit (omega (arith, room.files)) in
    let blocks : nat_le (used_blocks s + cost f.records) s.quota ≡ true =
    le-leb (used_blocks s + cost f.records) s.quota (omega (arith, room.blocks, sum_by-cons cost_of_kept f fs)) in
    ap (λ b. cond b (limits_fault f.records s) (Some BadHeader)) reads
    ∙ ap (λ b. cond b (cond (has_blocks_for f.records s) None (Some QuotaOver)) (Some FilesOver)) files
    ∙ ap (λ b. cond b None (Some QuotaOver)) blocks

pub all_fit : (ws : List Whole) (fs : List KeptFile) (p : Part) → map (λ w. file_in w.file w.records) ws ≡ map Some fs
    → AllRead fs → HaveRoom p.customer.spool fs → AreBack p ws
all_fit [] fs p same reads room = tt
all_fit (w ∷ ws) [] p same reads room = absurd (omega (arith, ap length same))
all_fit (w ∷ ws) (f ∷ fs) p same reads room =
    back_with w ws f p (ap (λ (os : List (Option KeptFile)). get_or os 0 (Some f)) same)
    (none_refused f fs p.customer.spool reads.0 room)
    (all_fit ws fs (part_with_file f p) (ap (λ (os : List (Option KeptFile)). drop 1 os) same) reads.1
    (room_left f fs p room))
