use Rattle.std.proofs.Common.{◌++◌, ◌∙◌, [], ◌∷◌, List, ap, refl, subst, sym, inl, inr}
use Rattle.std.proofs.lemmas.Bool.{false≢true}
use Rattle.njh_console.specs.Consoles.{ConsoleState}
use Rattle.njh_console.specs.Seats.{with_room, IsReadFrom, Seat}
use Rattle.njh_console.proofs.console.Console.admit.Goals as goal

-- nothing more is read of him
pub returns-then-not-wants_read-clause-seats : goal.returns-then-not-wants_read-clause-seats
returns-then-not-wants_read-clause-seats g c =
    let V : Type 0 = g.row.V.Denot in
    record {
      seat = c.receive.new.self;
      read = subst (λ (new : Seat V). IsReadFrom g.V.Read.remaining new c.receive.new.self) c.new-visitor.ensures
          c.receive.ensures;
      after_is = inr (
        λ wants. false≢true (sym c.if-not-wants_read.true ∙ c.wants_read.ensures.1 wants),
        refl,
      );
    }

-- he sits behind all others
pub returns-clause-seats : goal.returns-clause-seats
returns-clause-seats g c =
    let V : Type 0 = g.row.V.Denot in
    let seat = c.receive.new.self in
    record {
      seat = seat;
      read = subst (λ (new : Seat V). IsReadFrom g.V.Read.remaining new seat) c.new-visitor.ensures c.receive.ensures;
      after_is = inl (
        c.wants_read.ensures.0 c.if-not-wants_read.false,
        c.push_reserved.ensures.items
            ∙ ap (λ (seats : List (Seat V)). seats ++ seat ∷ [])
            (c.make_room.ensures.seats ∙ ap (λ (console : ConsoleState V). with_room console.seats) c.self.view_is),
      );
    }
