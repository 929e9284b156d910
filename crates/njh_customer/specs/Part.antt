-- A customer's part of a hub: the customer, and of each of its lines what has come of the next frame.
use Rattle.std.specs.Prelude.{ℕ, List, map, slice_index_or, slice_set}
use Rattle.njh_bisync.specs.Reading.{Rest, Nothing}
use Rattle.njh_table.specs.Entries.{CustomerEntry}
use Rattle.njh_spool.specs.CustomerSpool.{CustomerSpool}
use Rattle.njh_customer.specs.declared.signal.Signal.{Signal}
use Rattle.njh_customer.specs.Customer.{Customer, CustomerLine, customer_with, fresh_customer}
use Rattle.njh_customer.specs.Alone.{after_signal}
use Rattle.njh_customer.specs.Feeding.{take_step}

pub record Part : Type 0 where
  pub rests : List Rest
  pub customer : Customer

-- a part of a hub that was just opened
abbrev pub part_at_open : CustomerEntry → Part
part_at_open entry = record { rests = map (λ line. Nothing) entry.lines; customer = fresh_customer entry }

-- a customer's lines, and of each what has come of its next frame
pub record Lines : Type 0 where
  pub rests : List Rest
  pub lines : List CustomerLine

abbrev pub part_with : CustomerEntry → CustomerSpool → Lines → Part
part_with entry spool x = record { rests = x.rests; customer = customer_with entry spool x.lines }

-- what has come of the next frame on a line
abbrev pub rest_at : ℕ → List Rest → Rest
rest_at l rests = slice_index_or rests l Nothing

abbrev pub rest_on : ℕ → Part → Rest
rest_on l p = rest_at l p.rests

abbrev pub with_rest : ℕ → Rest → Part → List Rest
with_rest l rest p = slice_set p.rests l rest

-- one step by bytes of a line
pub record Taken : Type 0 where
  pub after : Part
  pub frame : List ℕ
  pub taken : ℕ

abbrev pub part_after_bytes : Part → ℕ → List ℕ → Taken
part_after_bytes p l piece =
    let t = take_step (rest_on l p) p.customer l piece in
    record { after = record { rests = with_rest l t.rest p; customer = t.after }; frame = t.frame; taken = t.taken }

-- one step by a signal
pub record Signalled : Type 0 where
  pub after : Part
  pub frame : List ℕ

-- it drops a frame that isn't whole
abbrev pub part_after_signal : Part → ℕ → Signal → Signalled
part_after_signal p l signal =
    let x = after_signal l signal p.customer in
    record { after = record { rests = with_rest l Nothing p; customer = x.after }; frame = x.frame }
