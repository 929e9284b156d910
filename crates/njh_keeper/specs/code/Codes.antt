-- How what is remembered is stored as numbers, truth values and lists, so that a model may have it as its value.
use Rattle.std.specs.Prelude.{◌≡◌, ℕ, zero, suc, Bool, List, refl}
use Rattle.std.specs.Coded.{Coded, code_by, coded×, coded_bool, coded_list, coded_ℕ}
use Rattle.njh_ebcdic.specs.Users.{User}
use Rattle.njh_spool.specs.declared.State.{State}
use Rattle.njh_spool.specs.declared.State.TheVariants.{Ready, Held, Refused, Sending}
use Rattle.njh_spool.specs.declared.restoring.fault.RestoreFault.TheVariants as restoring
use Rattle.njh_spoolfile.specs.Kept.{File}
use Rattle.njh_keeper.specs.Refusal.{Refusal}
use Rattle.njh_keeper.specs.declared.fault.FileFault.{FileFault}
use Rattle.njh_keeper.specs.declared.fault.FileFault.TheVariants as fault
use Rattle.njh_keeper.specs.code.Remembered.{KeptPartial, KeptWhole, Numbers, OwnFiles, OwnMemory, Sweep}

abbrev text_code : Coded (List ℕ)
text_code = coded_list coded_ℕ

abbrev number_of_state : State → ℕ
number_of_state Ready = 0
number_of_state Held = 1
number_of_state Refused = 2
number_of_state Sending = 3

abbrev state_of_number : ℕ → State
state_of_number zero = Ready
state_of_number (suc zero) = Held
state_of_number (suc (suc zero)) = Refused
state_of_number (suc (suc (suc n))) = Sending

pub state_back : (state : State) → state_of_number (number_of_state state) ≡ state
state_back Ready = refl
state_back Held = refl
state_back Refused = refl
state_back Sending = refl

abbrev state_code : Coded State
state_code = code_by ℕ coded_ℕ number_of_state state_of_number state_back

abbrev user_code : Coded User
user_code = code_by (List ℕ × List ℕ) (coded× text_code text_code) (λ u. (u.node, u.user))
    (λ p. record { node = p.0; user = p.1 }) (λ _. refl)

abbrev whole_code : Coded KeptWhole
whole_code = code_by (ℕ × (ℕ × (ℕ × (ℕ × (State × (User × (Bool × Bool)))))))
    (coded× coded_ℕ (coded× coded_ℕ (coded× coded_ℕ
    (coded× coded_ℕ (coded× state_code (coded× user_code (coded× coded_bool coded_bool)))))))
    (λ k. (k.id, (k.key, (k.number, (k.records, (k.state, (k.destination, (k.is_mixed, k.is_sent))))))))
    (λ p. record {
      id = p.0;
      key = p.1.0;
      number = p.1.1.0;
      records = p.1.1.1.0;
      state = p.1.1.1.1.0;
      destination = p.1.1.1.1.1.0;
      is_mixed = p.1.1.1.1.1.1.0;
      is_sent = p.1.1.1.1.1.1.1;
    }) (λ _. refl)

abbrev partial_code : Coded KeptPartial
partial_code = code_by (ℕ × (ℕ × (ℕ × (ℕ × Bool))))
    (coded× coded_ℕ (coded× coded_ℕ (coded× coded_ℕ (coded× coded_ℕ coded_bool))))
    (λ p. (p.number, (p.key, (p.seen, (p.written, p.is_open)))))
    (λ p. record { number = p.0; key = p.1.0; seen = p.1.1.0; written = p.1.1.1.0; is_open = p.1.1.1.1 })
    (λ _. refl)

abbrev sweep_code : Coded Sweep
sweep_code = code_by (ℕ × (ℕ × ℕ)) (coded× coded_ℕ (coded× coded_ℕ coded_ℕ)) (λ s. (s.key, (s.next, s.end)))
    (λ p. record { key = p.0; next = p.1.0; end = p.1.1 }) (λ _. refl)

abbrev own_code : Coded OwnFiles
own_code = code_by (List ℕ × (ℕ × (List KeptWhole × (List KeptPartial × List Sweep))))
    (coded× text_code (coded× coded_ℕ (coded× (coded_list whole_code) (coded× (coded_list partial_code)
    (coded_list sweep_code)))))
    (λ o. (o.name, (o.arrived, (o.whole, (o.partial, o.sweeps)))))
    (λ p. record { name = p.0; arrived = p.1.0; whole = p.1.1.0; partial = p.1.1.1.0; sweeps = p.1.1.1.1 }) (λ _. refl)

-- a customer
abbrev pub own_memory_code : Coded OwnMemory
own_memory_code = code_by (OwnFiles × List ℕ) (coded× own_code text_code) (λ m. (m.own, m.text))
    (λ p. record { own = p.0; text = p.1 }) (λ _. refl)

-- the numbers that the writer may give out
abbrev pub numbers_code : Coded Numbers
numbers_code = code_by (ℕ × (ℕ × List ℕ)) (coded× coded_ℕ (coded× coded_ℕ text_code))
    (λ w. (w.next_id, (w.next_key, w.free_keys))) (λ p. record { next_id = p.0; next_key = p.1.0; free_keys = p.1.1 })
    (λ _. refl)

abbrev number_of_fault : FileFault → ℕ
number_of_fault fault.BadFile = 0
number_of_fault (fault.Refused restoring.QuotaOver) = 1
number_of_fault (fault.Refused restoring.FilesOver) = 2
number_of_fault (fault.Refused restoring.BadHeader) = 3

abbrev fault_of_number : ℕ → FileFault
fault_of_number zero = fault.BadFile
fault_of_number (suc zero) = fault.Refused restoring.QuotaOver
fault_of_number (suc (suc zero)) = fault.Refused restoring.FilesOver
fault_of_number (suc (suc (suc n))) = fault.Refused restoring.BadHeader

pub fault_back : (f : FileFault) → fault_of_number (number_of_fault f) ≡ f
fault_back fault.BadFile = refl
fault_back (fault.Refused restoring.QuotaOver) = refl
fault_back (fault.Refused restoring.FilesOver) = refl
fault_back (fault.Refused restoring.BadHeader) = refl

abbrev fault_code : Coded FileFault
fault_code = code_by ℕ coded_ℕ number_of_fault fault_of_number fault_back

abbrev file_code : Coded File
file_code = code_by
    ((List ℕ × (ℕ × (List ℕ × (List ℕ × ℕ))))
    × ((List ℕ × (List ℕ × (List ℕ × List ℕ))) × (Bool × (ℕ × (ℕ × ℕ)))))
    (coded× (coded× text_code (coded× coded_ℕ (coded× text_code (coded× text_code coded_ℕ))))
    (coded× (coded× text_code (coded× text_code (coded× text_code text_code)))
    (coded× coded_bool (coded× coded_ℕ (coded× coded_ℕ coded_ℕ)))))
    (λ f. (
      (f.customer, (f.key, (f.kind, (f.job, f.number)))),
      ((f.owner_node, (f.owner_user, (f.to_node, f.to_user))), (f.held, (f.records, (f.blocks, f.came)))),
    ))
    (λ p. record {
      customer = p.0.0;
      key = p.0.1.0;
      kind = p.0.1.1.0;
      job = p.0.1.1.1.0;
      number = p.0.1.1.1.1;
      owner_node = p.1.0.0;
      owner_user = p.1.0.1.0;
      to_node = p.1.0.1.1.0;
      to_user = p.1.0.1.1.1;
      held = p.1.1.0;
      records = p.1.1.1.0;
      blocks = p.1.1.1.1.0;
      came = p.1.1.1.1.1;
    }) (λ _. refl)

-- a whole file that isn't put back
abbrev pub refusal_code : Coded Refusal
refusal_code = code_by (ℕ × (File × FileFault)) (coded× coded_ℕ (coded× file_code fault_code))
    (λ r. (r.id, (r.file, r.fault))) (λ p. record { id = p.0; file = p.1.0; fault = p.1.1 }) (λ _. refl)
