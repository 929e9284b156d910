-- A text in words that was read in pieces.
use Rattle.std.proofs.Common.{◌≡◌, ℕ, ◌+◌, ◌<◌, true, List, [], ◌∷◌, ◌++◌, length, refl, sym, ap, ◌∙◌}
use Rattle.std.proofs.Common.{append_assoc, append-nil, arith, subst, Option, None, Some, Result, Ok, Err, OnOk}
use Rattle.std.specs.Prelude.{IfSome}
use Rattle.std.specs.Io.KnownBytes.{Consumes}
use Rattle.njh_encode.specs.declared.fault.EncodeFault.{EncodeFault}
use Rattle.njh_encode.specs.declared.fault.Reason.{Reason}
use Rattle.njh_encode.specs.declared.fault.Reason.TheVariants.{LongLine}
use Rattle.njh_encode.specs.declared.line_states.LineState.{LineState}
use Rattle.njh_encode.specs.Encoded.{IsDone, Outcome}
use Rattle.njh_io.specs.Lines.{is_first_long, lines_from, lines_of}
use Rattle.njh_encode.specs.Scripts.{AreAnswered, BecomesThen, Encoding, LinesBecome, Texts, behind_script}
use Rattle.njh_encode.specs.Scripts.{outcome_in_text}
use Rattle.njh_encode.specs.code.Reading.{BecomesBehind, EndsBad, IsBadLine, Progress, Takes, TakesLine}
use Rattle.njh_encode.proofs.LineLaws.{long-first}

-- ---- one line

-- it was taken
abbrev pub IsLineTaken : (known : Option Texts) (states after : List LineState) (number : ℕ)
    (line script grown : List ℕ) → Type 0
IsLineTaken known states after number line script grown = (lines : List ℕ) × (grown ≡ script ++ lines)
    × ((rest : List (List ℕ)) (e : Encoding) → LinesBecome known after (number + 1) rest e
    → LinesBecome known states number (line ∷ rest) (behind_script lines e))

line-of : (known : Option Texts) (texts : Texts) (states after : List LineState) (number : ℕ)
    (line script grown : List ℕ)
    (outcome : Result Outcome Reason) → AreAnswered known texts → outcome_in_text texts states line ≡ outcome
    → IsDone outcome after script grown → IsLineTaken known states after number line script grown
line-of known texts states after number line script grown (Err reason) may is done = absurd done
line-of known texts states after number line script grown (Ok outcome) may is done = (
  outcome.script,
  done.appended,
  λ rest e b.
      let Behind : List LineState → Encoding → Type 0 = λ states. LinesBecome known states (number + 1) rest in
      let P : Result Outcome Reason → Type 0 = λ o. BecomesThen number o Behind (behind_script outcome.script e) in
      let Q : List LineState → Type 0 = λ s. Behind s e in
      (texts, may, subst P (sym is) (e, subst Q done.kept b, refl)),
)

pub line_taken : (known : Option Texts) (texts : Texts) (states after : List LineState) (number : ℕ)
    (line script grown : List ℕ)
    → AreAnswered known texts → IsDone (outcome_in_text texts states line) after script grown
    → IsLineTaken known states after number line script grown
line_taken known texts states after number line script grown may done =
    line-of known texts states after number line script grown (outcome_in_text texts states line) may refl done

-- ---- pieces

last-line : (front : List ℕ) → 0 < length front → lines_from front [] ≡ front ∷ []
last-line [] some = absurd (omega arith)
last-line (b ∷ bs) some = refl

-- the same text, put otherwise
pub text-as : (known : Option Texts) (at : Progress) (a b : List ℕ) (e : Encoding) → a ≡ b → BecomesBehind known at a e
    → BecomesBehind known at b e
text-as known at a b e same becomes = let P : List ℕ → Type 0 =
    λ text. BecomesBehind known at text e in subst P same becomes

-- a piece, and then the next
pub Takes-then : (known : Option Texts) (a b c : Progress) (piece next lines others : List ℕ)
    → Takes known a piece lines b
    → Takes known b next others c → Takes known a (piece ++ next) (lines ++ others) c
Takes-then known a b c piece next lines others x y = λ more e z.
    let Q : List ℕ → Type 0 = λ script. BecomesBehind known a ((piece ++ next) ++ more)
    (record { script = script; bad = e.bad }) in
    subst Q (sym (append_assoc lines others e.script))
    (text-as known a (piece ++ (next ++ more)) ((piece ++ next) ++ more) (behind_script lines (behind_script others e))
    (sym (append_assoc piece next more)) (x (next ++ more) (behind_script others e) (y more e z)))

-- a piece, and then one with a bad line
pub Takes-bad : (known : Option Texts) (a b : Progress) (piece next lines : List ℕ) (e : Encoding)
    → Takes known a piece lines b
    → EndsBad known b next e → EndsBad known a (piece ++ next) (behind_script lines e)
Takes-bad known a b piece next lines e x y = λ more.
    text-as known a (piece ++ (next ++ more)) ((piece ++ next) ++ more) (behind_script lines e)
    (sym (append_assoc piece next more)) (x (next ++ more) e (y more))

-- what holds of all texts that begin with these bytes holds of what a reader had that gave them
pub known_then : (first now : Option (List ℕ)) (seen : List ℕ) (P : List ℕ → Type 0) → Consumes first now seen
    → ((more : List ℕ) → P (seen ++ more)) → IfSome first P
known_then None now seen P taken holds = tt
known_then (Some xs) None seen P taken holds = absurd taken
known_then (Some xs) (Some ys) seen P taken holds = subst P (sym taken) (holds ys)

-- ---- how far a piece was read

-- What was taken of it became these lines of a script, and what is left comes after what was kept.
abbrev pub IsReadUpTo : (known : Option Texts) (a : Progress) (piece old_script left script : List ℕ) (b : Progress)
    → Type 0
IsReadUpTo known a piece old_script left script b = (lines : List ℕ) × (script ≡ old_script ++ lines)
    × ((more : List ℕ) (e : Encoding) → BecomesBehind known b (left ++ more) e
    → BecomesBehind known a (piece ++ more) (behind_script lines e))

pub read-none : (known : Option Texts) (a : Progress) (piece script : List ℕ)
    → IsReadUpTo known a piece script piece script a
read-none known a piece script = ([], sym (append-nil script), λ more e b. b)

-- the same lines, put otherwise
become-as : (known : Option Texts) (s t : List LineState) (m n : ℕ) (xs ys : List (List ℕ)) (e : Encoding) → s ≡ t
    → m ≡ n
    → xs ≡ ys → LinesBecome known s m xs e → LinesBecome known t n ys e
become-as known s t m n xs ys e states number lines becomes =
    let S : List LineState → Type 0 = λ s. LinesBecome known s m xs e in
    let N : ℕ → Type 0 = λ n. LinesBecome known t n xs e in
    let L : List (List ℕ) → Type 0 = λ ls. LinesBecome known t n ls e in
    subst L lines (subst N number (subst S states becomes))

-- what a reader kept of a piece, or the line that it ended
pub record IsKept (b kept : Progress) : Type 0 where
  pub states : kept.states ≡ b.states
  pub number : kept.number ≡ b.number

-- a line more
pub read-line : (known : Option Texts) (a b kept c : Progress) (piece old_script left script behind new_script : List ℕ)
    → IsReadUpTo known a piece old_script left script b
    → ((more : List ℕ) → lines_from b.front (left ++ more) ≡ kept.front ∷ lines_of (behind ++ more)) → IsKept b kept
    → ((lines : List ℕ) × (new_script ≡ script ++ lines) × TakesLine known kept kept.front lines c) → c.front ≡ []
    → IsReadUpTo known a piece old_script behind new_script c
read-line known a b kept c piece old_script left script behind new_script x line same t empty = (
  x.0 ++ t.0,
  t.1 ∙ ap (λ (xs : List ℕ). xs ++ t.0) x.1 ∙ append_assoc old_script x.0 t.0,
  λ more e z.
      let Q : List ℕ → Type 0 = λ front. LinesBecome known c.states c.number (lines_from front (behind ++ more)) e in
      let first : BecomesBehind known b (left ++ more) (behind_script t.0 e) =
      become-as known kept.states b.states kept.number b.number (kept.front ∷ lines_of (behind ++ more))
      (lines_from b.front (left ++ more)) (behind_script t.0 e) same.states same.number (sym (line more))
      (t.2 (lines_of (behind ++ more)) e (subst Q empty z)) in
      let E : List ℕ → Type 0 = λ s. BecomesBehind known a (piece ++ more) (record { script = s; bad = e.bad }) in
      subst E (sym (append_assoc x.0 t.0 e.script)) (x.2 more (behind_script t.0 e) first),
)

-- all of it, the last part without an end
pub read-all : (known : Option Texts) (a b kept : Progress) (piece old_script left script : List ℕ)
    → IsReadUpTo known a piece old_script left script b
    → ((more : List ℕ) → lines_from b.front (left ++ more) ≡ lines_from kept.front more) → IsKept b kept
    → (lines : List ℕ) × (script ≡ old_script ++ lines) × Takes known a piece lines kept
read-all known a b kept piece old_script left script x line same = (
  x.0,
  x.1,
  λ more e z.
      x.2 more e (become-as known kept.states b.states kept.number b.number (lines_from kept.front more)
      (lines_from b.front (left ++ more)) e same.states same.number (sym (line more)) z),
)

-- up to a bad line
abbrev pub IsBadIn : (known : Option Texts) (a : Progress) (piece old_script new_script : List ℕ) (fault : EncodeFault)
    → Type 0
IsBadIn known a piece old_script new_script fault = (lines : List ℕ) × (new_script ≡ old_script ++ lines)
    × EndsBad known a piece (record { script = lines; bad = Some fault })

bad-in : (known : Option Texts) (a b : Progress) (piece old_script left script new_script : List ℕ)
    (fault : EncodeFault)
    → IsReadUpTo known a piece old_script left script b → new_script ≡ script
    → ((more : List ℕ) → BecomesBehind known b (left ++ more) (record { script = []; bad = Some fault }))
    → IsBadIn known a piece old_script new_script fault
bad-in known a b piece old_script left script new_script fault x same bad = (
  x.0 ++ [],
  same ∙ x.1 ∙ ap (λ (xs : List ℕ). old_script ++ xs) (sym (append-nil x.0)),
  λ more. x.2 more (record { script = []; bad = Some fault }) (bad more),
)

-- the first line of what is left is too long
pub read-long : (known : Option Texts) (a b : Progress) (piece old_script left script : List ℕ) (fault : EncodeFault)
    → IsReadUpTo known a piece old_script left script b → fault ≡ record { line = b.number; reason = LongLine }
    → ((more : List ℕ) → is_first_long (lines_from b.front (left ++ more)) ≡ true)
    → IsBadIn known a piece old_script script fault
read-long known a b piece old_script left script fault x is long =
    bad-in known a b piece old_script left script script fault x refl
    (λ more.
    let P : EncodeFault → Type 0 = λ f. BecomesBehind known b (left ++ more) (record { script = []; bad = Some f }) in
    subst P (sym is) (long-first known b.states b.number (lines_from b.front (left ++ more)) (long more)))

-- or it is bad
pub read-bad : (known : Option Texts) (a b kept : Progress) (piece old_script left script behind new_script : List ℕ)
    (fault : EncodeFault) → IsReadUpTo known a piece old_script left script b
    → ((more : List ℕ) → lines_from b.front (left ++ more) ≡ kept.front ∷ lines_of (behind ++ more)) → IsKept b kept
    → new_script ≡ script → IsBadLine known kept kept.front (record { script = []; bad = Some fault })
    → IsBadIn known a piece old_script new_script fault
read-bad known a b kept piece old_script left script behind new_script fault x line same grown bad =
    bad-in known a b piece old_script left script new_script fault x grown
    (λ more.
    become-as known kept.states b.states kept.number b.number (kept.front ∷ lines_of (behind ++ more))
    (lines_from b.front (left ++ more)) (record { script = []; bad = Some fault }) same.states same.number
    (sym (line more))
    (bad (lines_of (behind ++ more))))

-- the last line, which has no end of its own
last-text : (known : Option Texts) (at : Progress) (e : Encoding) → 0 < length at.front
    → LinesBecome known at.states at.number (at.front ∷ []) e → BecomesBehind known at [] e
last-text known at e some becomes =
    let P : List (List ℕ) → Type 0 = λ lines. LinesBecome known at.states at.number lines e in
    subst P (sym (last-line at.front some)) becomes

pub last-taken : {T E : Type 0} (known : Option Texts) (r : Result T E) (at new : Progress) (script grown : List ℕ)
    → 0 < length at.front
    → OnOk r ((lines : List ℕ) × (grown ≡ script ++ lines) × TakesLine known at at.front lines new)
    → OnOk r ((lines : List ℕ) × (grown ≡ script ++ lines)
    × BecomesBehind known at [] (record { script = lines; bad = None }))
last-taken known (Err e) at new script grown some t = tt
last-taken known (Ok x) at new script grown some t =
    let P : List ℕ → Type 0 = λ lines. LinesBecome known at.states at.number (at.front ∷ [])
    (record { script = lines; bad = None }) in (
      t.0,
      t.1,
      last-text known at (record { script = t.0; bad = None }) some
          (subst P (append-nil t.0) (t.2 [] (record { script = []; bad = None }) refl)),
    )

pub last-bad : (known : Option Texts) (at : Progress) (e : Encoding) → 0 < length at.front
    → IsBadLine known at at.front e
    → BecomesBehind known at [] e
last-bad known at e some bad = last-text known at e some (bad [])
