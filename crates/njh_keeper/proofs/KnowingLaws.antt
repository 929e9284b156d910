-- What the keeper of a spool file knows of a hub's files: it goes on to know them step by step, and leaves them.
use Rattle.njh_keeper.proofs.Words
use Words.{◌≡◌, ℕ, ◌<◌, ◌≤◌, List, ◌++◌, length, get_or, set, map, sym, subst, arith}
use Words.{⊤, Stored, SpoolContents, records_of, CustomerSpool, partial_records, kept_file, AreNamedApart, IsRerouted}
use Words.{Kind}
use Words.{HasSpool, Knows, HasRecords, GoesOn, IsUpToDate, IsPartlyKept, KeptPartial, Mirrored, Moves, Numbers}
use Words.{OwnFiles, claim, keyed, left_in, length-append, take-append-le, IsFrontOf, AllAreApart, uses, uses_of_all}
use Words.{uses_of_files, ◌≢◌, zero, suc, ◌+◌, [], ◌∷◌, remove, ap, AllByRecursion}
use Rattle.njh_keeper.proofs.{SentLaws.rerouted_long, LeftLaws.left_of_parts, ListLaws.all_zip_weaker}
use Rattle.njh_keeper.proofs.{ListLaws.{all_zip_changes, all_both}, MirrorLaws.{all_of, mirrored_of_another}}
use Rattle.njh_keeper.proofs.{NumberedLaws.all_weaker, PartlyLaws.still_all, UsesLaws.each_counts}

-- ---- the numbers

uses_as_one_differs : (n : ℕ) (owns : List OwnFiles) (c : ℕ) (own now : OwnFiles) → c < length owns
    → own ≡ get_or owns c own
    → uses_of_all n (set owns c now) + uses_of_files n own ≡ uses_of_all n owns + uses_of_files n now
uses_as_one_differs n [] c own now there is = absurd (omega (arith, there))
uses_as_one_differs n (o ∷ owns) zero own now there is =
    let same : uses_of_files n own ≡ uses_of_files n o = ap (λ x. uses_of_files n x) is in
    omega (arith, same)
uses_as_one_differs n (o ∷ owns) (suc c) own now there is = omega (
  arith,
  uses_as_one_differs n owns c own now (omega (arith, there)) is,
)

pub uses_of_one : (n : ℕ) (owns : List OwnFiles) (c : ℕ) (own : OwnFiles) → c < length owns → own ≡ get_or owns c own
    → uses_of_all n owns ≡ uses_of_files n own + uses_of_all n (remove owns c)
uses_of_one n [] c own there is = absurd (omega (arith, there))
uses_of_one n (o ∷ owns) zero own there is = let same : uses_of_files n own ≡ uses_of_files n o =
    ap (λ x. uses_of_files n x) is in omega (arith, same)
uses_of_one n (o ∷ owns) (suc c) own there is = omega (arith, uses_of_one n owns c own (omega (arith, there)) is)

-- each of some customers uses no number that these use
each_is_apart : (m : ℕ → ℕ) (owns : List OwnFiles) → ((n : ℕ) → m n + uses_of_all n owns ≤ 1)
    → AllByRecursion (λ o. (n : ℕ) → m n + uses_of_files n o ≤ 1) owns
each_is_apart m [] once = tt
each_is_apart m (o ∷ owns) once = (λ n. (omega (arith, once n)), each_is_apart m owns (λ n. omega (arith, once n)))

-- ---- a customer's step

module _ (w w' : Numbers) (owns : List OwnFiles) (c : ℕ) (own own' : OwnFiles) (there : c < length owns)
    (is : own ≡ get_or owns c own) (s t : SpoolContents) (moves : Moves (claim w own) (claim w' own') s t)
    (apart : AllAreApart w owns) where
  pub all_still_apart : AllAreApart w' (set owns c own')
  all_still_apart n =
      omega (
        arith,
        uses_as_one_differs n owns c own own' there is,
        uses_of_one n owns c own there is,
        moves.uses n,
        apart n,
      )

  abbrev pub IsApartFrom : OwnFiles → Type 0
  IsApartFrom o = (o.name ≢ own.name) × ((n : ℕ) → uses n w own + uses_of_files n o ≤ 1)

  pub others_apart : AllByRecursion (λ o. o.name ≢ own.name) (remove owns c)
      → AllByRecursion IsApartFrom (remove owns c)
  others_apart named =
      all_both (λ o. o.name ≢ own.name) (λ o. (n : ℕ) → uses n w own + uses_of_files n o ≤ 1) IsApartFrom
      (λ o other apart. (other, apart)) (remove owns c) named (each_is_apart (λ n. uses n w own) (remove owns c)
      (λ n. omega (arith, uses_of_one n owns c own there is, apart n)))

-- ---- what it leaves

-- the customers' whole files, as the hub has them
pub known_is_left : (w : Numbers) (owns : List OwnFiles) (now : List CustomerSpool) (s : SpoolContents)
    → Knows w owns now s → left_in (map (λ own. own.name) owns) s ≡ map (λ c. map kept_file c.whole) now
known_is_left w owns now s knows =
    left_of_parts (λ (c : CustomerSpool). c.whole) s owns now
    (all_zip_weaker (λ _. ⊤) (HasSpool s) (λ own c. Mirrored s own c.whole) (λ own c none has. has.mirrored) owns now
    (all_of (λ _. ⊤) (λ _. tt) owns) knows.each)

-- ---- a customer's step

module _ (w w' : Numbers) (owns : List OwnFiles) (c : ℕ) (own own' : OwnFiles) (there : c < length owns)
    (is : own ≡ get_or owns c own) (s t : SpoolContents) (moves : Moves (claim w own) (claim w' own') s t)
    (now : List CustomerSpool) (knows : Knows w owns now s) (named : AreNamedApart owns) where
  -- another customer's files stay as they are
  of_another : (o : OwnFiles) (sp : CustomerSpool) → IsApartFrom w w' owns c own own' there is s t moves knows.apart o
      → HasSpool s o sp → HasSpool t o sp
  of_another o sp away has = record {
    arrived = has.arrived;
    mirrored = mirrored_of_another s t o sp.whole has.mirrored (claim w own) (claim w' own') moves away.0
        (λ n. omega (arith, away.1 n));
    up_to_date = has.up_to_date;
    go_on = still_all sp s t o.partial
        (all_weaker (λ (p : KeptPartial). 1 ≤ keyed (λ (x : KeptPartial). x.key) p.key o.partial)
        (λ p. records_of p.key t ≡ records_of p.key s)
        (λ p least. moves.records p.key (omega (arith, away.1 p.key, least))) o.partial
        (each_counts (λ (p : KeptPartial). p.key) (λ n. keyed (λ (x : KeptPartial). x.key) n o.partial) o.partial
        (λ n. omega arith))) has.go_on;
  }

  -- and so all are known where this one's are
  pub known_still : (sp : CustomerSpool) → HasSpool t own' sp → Knows w' (set owns c own') (set now c sp) t
  known_still sp has = record {
    ordered = moves.ordered;
    below = moves.below knows.below;
    apart = all_still_apart w w' owns c own own' there is s t moves knows.apart;
    each = all_zip_changes (IsApartFrom w w' owns c own own' there is s t moves knows.apart) (HasSpool s) (HasSpool t)
        of_another owns now c own' sp
        (others_apart w w' owns c own own' there is s t moves knows.apart (named c own there is)) knows.each has;
  }

-- ---- files that aren't whole

-- Where files of more than 1,365 records go on from those of their numbers, what is kept of one is a front of it still.
pub still_goes_on : (before now : CustomerSpool) (s : SpoolContents) (p : KeptPartial)
    → (1366 ≤ length (partial_records p.number now)
    → (rest : List Stored) × (partial_records p.number now ≡ partial_records p.number before ++ rest))
    → IsUpToDate before p → GoesOn before s p → GoesOn now s p
still_goes_on before now s p grows up go_on enough =
    let more = grows (omega (arith, up.many, enough)) in
    let was = partial_records p.number before in
    let one = go_on (omega (arith, up.seen)) in
    subst (IsPartlyKept s p) (sym more.1) (record {
      written = omega (arith, length-append was more.0, one.written);
      stored = subst (λ xs. HasRecords p.key xs s) (sym (take-append-le p.written was more.0 one.written)) one.stored;
    })

-- Where one became whole, that is so of what came, and the file may have been sent elsewhere since.
pub front_of_whole : (before : CustomerSpool) (s : SpoolContents) (p : KeptPartial) (kind : Kind) (rs : List Stored)
    → (1366 ≤ length rs → (rest : List Stored) × IsRerouted kind (partial_records p.number before ++ rest) rs)
    → IsUpToDate before p → GoesOn before s p → p.seen ≤ length rs → IsFrontOf s p.key p.written kind rs
front_of_whole before s p kind rs grows up go_on enough =
    let was = partial_records p.number before in
    let more = grows (omega (arith, up.many, enough)) in
    let here = go_on (omega (arith, up.seen)) in
    record {
      before = was ++ more.0;
      within = omega (
        arith,
        here.written,
        length-append was more.0,
        rerouted_long kind (was ++ more.0) rs more.1,
      );
      rerouted = more.1;
      stored = subst (λ xs. HasRecords p.key xs s) (sym (take-append-le p.written was more.0 here.written)) here.stored;
    }
