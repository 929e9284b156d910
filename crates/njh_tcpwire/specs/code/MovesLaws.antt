-- The laws that a connection owes of what it moves. An `impl` takes its proofs from specs/ alone, so they stand here.
use Rattle.std.proofs.Common.{◌≡◌, ℕ, List, [], ◌∷◌, ◌++◌, refl, ap, sym, ◌∙◌, subst, append_assoc, append-nil}
use Rattle.std.specs.List.{AllByRecursion}
use Rattle.njh_link.specs.Links.{LinkState}
use Rattle.njh_link.specs.Acts.{LinkAct, after_act, after_acts, AreAllowed, came_by, came_in, gave_by, gave_in}
use Rattle.njh_link.specs.Acts.{went_by, went_in, wrote_by, wrote_in}
use Rattle.njh_tcpwire.specs.Moves.{TcpState, Moves, byte_list}

after_acts-append : (xs ys : List LinkAct) (s : LinkState) → after_acts (xs ++ ys) s ≡ after_acts ys (after_acts xs s)
after_acts-append [] ys s = refl
after_acts-append (x ∷ xs) ys s = after_acts-append xs ys (after_act x s)

kinds-append : (Kind : LinkAct → Type 0) (xs ys : List LinkAct) → AllByRecursion Kind xs → AllByRecursion Kind ys
    → AllByRecursion Kind (xs ++ ys)
kinds-append Kind [] ys first then = then
kinds-append Kind (x ∷ xs) ys first then = (first.0, kinds-append Kind xs ys first.1 then)

allowed-append : (xs ys : List LinkAct) (s : LinkState) → AreAllowed xs s → AreAllowed ys (after_acts xs s)
    → AreAllowed (xs ++ ys) s
allowed-append [] ys s first then = then
allowed-append (x ∷ xs) ys s first then = (first.0, allowed-append xs ys (after_act x s) first.1 then)

came_in-append : (xs ys : List LinkAct) → came_in (xs ++ ys) ≡ came_in xs ++ came_in ys
came_in-append [] ys = refl
came_in-append (x ∷ xs) ys =
    ap (λ l. came_by x ++ l) (came_in-append xs ys) ∙ sym (append_assoc (came_by x) (came_in xs) (came_in ys))

wrote_in-append : (xs ys : List LinkAct) → wrote_in (xs ++ ys) ≡ wrote_in xs ++ wrote_in ys
wrote_in-append [] ys = refl
wrote_in-append (x ∷ xs) ys =
    ap (λ l. wrote_by x ++ l) (wrote_in-append xs ys) ∙ sym (append_assoc (wrote_by x) (wrote_in xs) (wrote_in ys))

gave_in-append : (xs ys : List LinkAct) (s : LinkState)
    → gave_in (xs ++ ys) s ≡ gave_in xs s ++ gave_in ys (after_acts xs s)
gave_in-append [] ys s = refl
gave_in-append (x ∷ xs) ys s =
    ap (λ l. gave_by x s ++ l) (gave_in-append xs ys (after_act x s))
    ∙ sym (append_assoc (gave_by x s) (gave_in xs (after_act x s)) (gave_in ys (after_acts xs (after_act x s))))

went_in-append : (xs ys : List LinkAct) (s : LinkState)
    → went_in (xs ++ ys) s ≡ went_in xs s ++ went_in ys (after_acts xs s)
went_in-append [] ys s = refl
went_in-append (x ∷ xs) ys s =
    ap (λ l. went_by x s ++ l) (went_in-append xs ys (after_act x s))
    ∙ sym (append_assoc (went_by x s) (went_in xs (after_act x s)) (went_in ys (after_acts xs (after_act x s))))

-- what stands at the end of one is at the beginning of the next
chain : (a b c first then : List ℕ) (x y : List ℕ) → a ++ x ≡ first ++ b → b ++ y ≡ then ++ c
    → a ++ (x ++ y) ≡ (first ++ then) ++ c
chain a b c first then x y one two =
    sym (append_assoc a x y)
    ∙ (ap (λ l. l ++ y) one ∙ (append_assoc first b y
    ∙ (ap (λ l. first ++ l) two ∙ sym (append_assoc first then c))))

-- nothing moved where nothing happened
pub moves_none : {C : Type 0} (Kind : LinkAct → Type 0) (moved : C → C → List ℕ → List ℕ → Type 0)
    → ((s : C) → moved s s [] []) → (s : TcpState C) → Moves Kind moved s s [] []
moves_none Kind moved none s = record {
  acts = [];
  kinds = tt;
  received = [];
  sent = [];
  moves = none s.inner;
  link = refl;
  allowed = tt;
  heard = append-nil s.unheard;
  gave = refl;
  out = refl;
  wrote = sym (append-nil (byte_list s.charged));
}

-- some bytes, and then more
pub moves_then : {C : Type 0} (Kind : LinkAct → Type 0) (moved : C → C → List ℕ → List ℕ → Type 0)
    → ((a b c : C) (came next_came went next_went : List ℕ) → moved a b came went → moved b c next_came next_went
    → moved a c (came ++ next_came) (went ++ next_went))
    → (a b c : TcpState C) (came next_came went next_went : List ℕ) → Moves Kind moved a b came went
    → Moves Kind moved b c next_came next_went → Moves Kind moved a c (came ++ next_came) (went ++ next_went)
moves_then Kind moved more a b c came next_came went next_went first then =
    let later : AreAllowed then.acts (after_acts first.acts a.link) =
    subst (λ (s : LinkState). AreAllowed then.acts s) first.link then.allowed in
    record {
      acts = first.acts ++ then.acts;
      kinds = kinds-append Kind first.acts then.acts first.kinds then.kinds;
      received = first.received ++ then.received;
      sent = first.sent ++ then.sent;
      moves = more a.inner b.inner c.inner first.received then.received first.sent then.sent first.moves then.moves;
      link = then.link ∙ (ap (after_acts then.acts) first.link ∙ sym (after_acts-append first.acts then.acts a.link));
      allowed = allowed-append first.acts then.acts a.link first.allowed later;
      heard = chain a.unheard b.unheard c.unheard (came_in first.acts) (came_in then.acts) first.received then.received
          first.heard then.heard
          ∙ ap (λ l. l ++ c.unheard) (sym (came_in-append first.acts then.acts));
      gave = ap (λ l. l ++ next_came) first.gave
          ∙ (ap (λ l. gave_in first.acts a.link ++ l) (then.gave ∙ ap (gave_in then.acts) first.link)
          ∙ sym (gave_in-append first.acts then.acts a.link));
      out = ap (λ l. l ++ then.sent) first.out
          ∙ (ap (λ l. went_in first.acts a.link ++ l) (then.out ∙ ap (went_in then.acts) first.link)
          ∙ sym (went_in-append first.acts then.acts a.link));
      wrote = append_assoc went next_went (byte_list c.charged)
          ∙ (ap (λ l. went ++ l) then.wrote
          ∙ (sym (append_assoc went (byte_list b.charged) (wrote_in then.acts))
          ∙ (ap (λ l. l ++ wrote_in then.acts) first.wrote
          ∙ (append_assoc (byte_list a.charged) (wrote_in first.acts) (wrote_in then.acts)
          ∙ ap (λ l. byte_list a.charged ++ l) (sym (wrote_in-append first.acts then.acts))))));
    }
