-- The lines of a text that comes in pieces.
use Rattle.std.proofs.Common.{◌≡◌, ℕ, ◌+◌, ◌<◌, Bool, true, false, eqb, List, [], ◌∷◌, ◌++◌, length, sym, ap, ◌∙◌}
use Rattle.std.proofs.Common.{append_assoc, append-nil, length-append, arith, cond, refl, None, Some, get_or, take}
use Rattle.std.proofs.Common.{drop}
use Rattle.std.proofs.Common.{take-append-drop}
use Rattle.std.specs.List.{All, AllByRecursion}
use Rattle.std.proofs.lemmas.Bool.{eqb-true, false_from_ne_true, lt-ltb}
use Rattle.std.proofs.lemmas.List.{drop_more, get_or-take, length-take}
use Rattle.std.proofs.lemmas.List.Elements.{All-from_get_or, recursion_from_All}
use Rattle.memchr.specs.Find.{IsFirstByte, is_byte}
use Rattle.njh_io.specs.Lines.{is_first_long, is_long_line, last_line, lines_from, lines_of, max_line_bytes}

-- bytes that end no line are kept
run-kept : (front run more : List ℕ) → AllByRecursion (λ b. eqb b 10 ≡ false) run
    → lines_from front (run ++ more) ≡ lines_from (front ++ run) more
run-kept front [] more none = ap (λ (xs : List ℕ). lines_from xs more) (sym (append-nil front))
run-kept front (b ∷ run) more none =
    rw none.0
    (run-kept (front ++ b ∷ []) run more none.1
    ∙ ap (λ (xs : List ℕ). lines_from xs more) (append_assoc front (b ∷ []) run))

-- the end of a line
pub lines_from-end : (front run more : List ℕ) → All (λ b. eqb b 10 ≡ false) run
    → lines_from front (run ++ 10 ∷ more) ≡ (front ++ run) ∷ lines_of more
lines_from-end front run more none = run-kept front run (10 ∷ more) (recursion_from_All _ run none)

-- a text in which no line ends
pub lines_from-none : (front text more : List ℕ) → IsFirstByte (is_byte 10) text None
    → lines_from front (text ++ more) ≡ lines_from (front ++ text) more
lines_from-none front text more nowhere =
    run-kept front text more (recursion_from_All _ text
    (All-from_get_or (λ b. eqb b 10 ≡ false) text 0
    (λ k below. false_from_ne_true (eqb (get_or text k 0) 10) (nowhere k (omega arith) below))))

-- a text in which the first line ends at a place
pub lines_from-some : (front text more : List ℕ) (place : ℕ) (line end behind : List ℕ)
    → IsFirstByte (is_byte 10) text (Some place) → line ≡ take place text → end ≡ drop place text → behind ≡ drop 1 end
    → lines_from front (text ++ more) ≡ (front ++ line) ∷ lines_of (behind ++ more)
lines_from-some front text more place line end behind first line_is end_is behind_is =
    let before = first.0 in
    let below : place < length text = before.high in
    let head : drop place text ≡ get_or text place 0 ∷ drop (place + 1) text = drop_more text place 0 below in
    let here : get_or text place 0 ≡ 10 = eqb-true (get_or text place 0) 10 first.1 in
    let tail : behind ≡ drop (place + 1) text = behind_is ∙ ap (drop 1) (end_is ∙ head) in
    let whole : text ≡ take place text ++ 10 ∷ behind =
    sym (take-append-drop place text) ∙ ap (λ (xs : List ℕ). take place text ++ xs) head
    ∙ ap (λ (b : ℕ). take place text ++ b ∷ drop (place + 1) text) here
    ∙ ap (λ (xs : List ℕ). take place text ++ 10 ∷ xs) (sym tail) in
    let none : All (λ b. eqb b 10 ≡ false) (take place text) =
    All-from_get_or (λ b. eqb b 10 ≡ false) (take place text) 0
    (λ k less.
    let low : k < place = omega (arith, length-take place text) in
    rw (get_or-take place text k 0 low)
    (false_from_ne_true (eqb (get_or text k 0) 10) (before.before k (omega arith) low))) in
    ap (λ (xs : List ℕ). lines_from front (xs ++ more)) whole
    ∙ ap (lines_from front) (append_assoc (take place text) (10 ∷ behind) more)
    ∙ lines_from-end front (take place text) (behind ++ more) none
    ∙ ap (λ (xs : List ℕ). (front ++ xs) ∷ lines_of (behind ++ more)) (sym line_is)

-- what has come of a line is too long already
first_long-cond : (ended : Bool) (line : List ℕ) (xs ys : List (List ℕ)) → is_long_line line ≡ true
    → is_first_long ys ≡ true → is_first_long (cond ended (line ∷ xs) ys) ≡ true
first_long-cond true line xs ys long later = long
first_long-cond false line xs ys long later = later

first_long-last : (front : List ℕ) → max_line_bytes < length front → is_first_long (last_line front) ≡ true
first_long-last [] long = absurd (omega arith)
first_long-last (b ∷ bs) long = lt-ltb max_line_bytes (length (b ∷ bs)) long

pub first_long : (front text : List ℕ) → max_line_bytes < length front → is_first_long (lines_from front text) ≡ true
first_long front [] long = first_long-last front long
first_long front (b ∷ text) long =
    first_long-cond (eqb b 10) front (lines_from [] text) (lines_from (front ++ b ∷ []) text)
    (lt-ltb max_line_bytes (length front) long)
    (first_long (front ++ b ∷ []) text (omega (arith, length-append front (b ∷ []))))

-- of a text alone
pub lines_of-first : (text line behind : List ℕ)
    → ((front more : List ℕ) → lines_from front (text ++ more) ≡ (front ++ line) ∷ lines_of (behind ++ more))
    → lines_of text ≡ line ∷ lines_of behind
lines_of-first text line behind at =
    ap lines_of (sym (append-nil text)) ∙ at [] [] ∙ ap (λ (xs : List ℕ). line ∷ lines_of xs) (append-nil behind)

last-one : (text : List ℕ) → 0 < length text → last_line text ≡ text ∷ []
last-one [] some = absurd (omega arith)
last-one (b ∷ bs) some = refl

pub lines_of-last : (text : List ℕ)
    → ((front more : List ℕ) → lines_from front (text ++ more) ≡ lines_from (front ++ text) more) → 0 < length text
    → lines_of text ≡ text ∷ []
lines_of-last text at some = ap lines_of (sym (append-nil text)) ∙ at [] [] ∙ last-one text some
