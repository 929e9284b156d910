-- Control records that are written read back.
use Rattle.std.proofs.Common.{◌≡◌, ℕ, List, [], ◌∷◌, ◌++◌, length, take, drop, refl, ap, sym, ◌∙◌, arith}
use Rattle.std.proofs.Common.{append_assoc, length-append}
use Rattle.std.specs.Prelude.{if◌then◌else◌, nat_eq, slice_index, Option, Some, None}
use Rattle.std.proofs.Math.Seq.{take-append_seam, drop-append_seam, get_or-append_seam}
use Rattle.std.specs.Cmp.Lexicographic.{pointwise}
use Rattle.njh_tcp.specs.Controls.{open_type, ack_type, nak_type, record_of, HaveSizes, no_address, control_bytes}
use Rattle.njh_tcp.specs.Controls.{AreHosts, hosts_of, control_in}
use Rattle.njh_tcp.specs.declared.control.Hosts.{Hosts}
use Rattle.njh_tcp.specs.declared.control.ControlRecord.{ControlRecord}
use Rattle.njh_tcp.specs.declared.control.ControlRecord.TheVariants.{Open, Ack, Nak}

took : (n : ℕ) (front back : List ℕ) → length front ≡ n → take n (front ++ back) ≡ front
took n front back size = ap (λ k. take k (front ++ back)) (sym size) ∙ take-append_seam front back

dropped : (n : ℕ) (front back : List ℕ) → length front ≡ n → drop n (front ++ back) ≡ back
dropped n front back size = ap (λ k. drop k (front ++ back)) (sym size) ∙ drop-append_seam front back

-- what 33 bytes are, by the fields that are looked at
abbrev told : List ℕ → List ℕ → List ℕ → ℕ → Option ControlRecord
told kind from to reason =
    let hosts : Hosts = record { from = from; to = to } in
    if pointwise nat_eq open_type kind then Some (Open hosts) else
    if pointwise nat_eq ack_type kind then Some (Ack hosts) else
    if pointwise nat_eq nak_type kind then Some (Nak hosts reason) else None

control_is : (kind rhost rip ohost oip : List ℕ) (reason : ℕ) → HaveSizes kind rhost rip ohost oip
    → control_in (record_of kind rhost rip ohost oip reason) ≡ told kind rhost ohost reason
unfolding control_in
control_is kind rhost rip ohost oip reason sizes =
    let bytes = record_of kind rhost rip ohost oip reason in
    let last = oip ++ reason ∷ [] in
    let half = (kind ++ rhost) ++ rip in
    let by_half : bytes ≡ half ++ (ohost ++ last) =
    append_assoc (half ++ ohost) oip (reason ∷ []) ∙ append_assoc half ohost last in
    let by_kind : bytes ≡ kind ++ (rhost ++ (rip ++ (ohost ++ last))) =
    by_half ∙ (append_assoc (kind ++ rhost) rip (ohost ++ last) ∙ append_assoc kind rhost (rip ++ (ohost ++ last))) in
    let half_size : length half ≡ 20 =
    omega (
      arith,
      sizes.kind_size,
      sizes.rhost_size,
      sizes.rip_size,
      length-append (kind ++ rhost) rip,
      length-append kind rhost,
    ) in
    let front_size : length ((half ++ ohost) ++ oip) ≡ 32 =
    omega (
      arith,
      half_size,
      sizes.ohost_size,
      sizes.oip_size,
      length-append (half ++ ohost) oip,
      length-append half ohost,
    ) in
    let kind_is : take 8 bytes ≡ kind = ap (take 8) by_kind ∙ took 8 kind _ sizes.kind_size in
    let rhost_is : take 8 (drop 8 bytes) ≡ rhost =
    ap (λ l. take 8 (drop 8 l)) by_kind
    ∙ (ap (take 8) (dropped 8 kind _ sizes.kind_size) ∙ took 8 rhost _ sizes.rhost_size) in
    let ohost_is : take 8 (drop 20 bytes) ≡ ohost =
    ap (λ l. take 8 (drop 20 l)) by_half
    ∙ (ap (take 8) (dropped 20 half _ half_size) ∙ took 8 ohost _ sizes.ohost_size) in
    let reason_is : slice_index bytes 32 ≡ reason =
    ap (slice_index bytes) (sym front_size) ∙ get_or-append_seam ((half ++ ohost) ++ oip) reason [] 0 in
    ap (λ k. told k (take 8 (drop 8 bytes)) (take 8 (drop 20 bytes)) (slice_index bytes 32)) kind_is
    ∙ (ap (λ l. told kind l (take 8 (drop 20 bytes)) (slice_index bytes 32)) rhost_is
    ∙ (ap (λ l. told kind rhost l (slice_index bytes 32)) ohost_is ∙ ap (told kind rhost ohost) reason_is))

sizes_of : (kind : List ℕ) (hosts : Hosts) → length kind ≡ 8 → AreHosts hosts
    → HaveSizes kind hosts.from no_address hosts.to no_address
sizes_of kind hosts size are = record {
  kind_size = size;
  rhost_size = are.0;
  rip_size = refl;
  ohost_size = are.1;
  oip_size = refl;
}

pub control_back : (control : ControlRecord) → AreHosts (hosts_of control)
    → control_in (control_bytes control) ≡ Some control
control_back (Open hosts) are =
    control_is open_type hosts.from no_address hosts.to no_address 0 (sizes_of open_type hosts refl are)
control_back (Ack hosts) are =
    control_is ack_type hosts.from no_address hosts.to no_address 0 (sizes_of ack_type hosts refl are)
control_back (Nak hosts reason) are =
    control_is nak_type hosts.from no_address hosts.to no_address reason (sizes_of nak_type hosts refl are)

pub control_unread : (kind rhost rip ohost oip other_rip other_oip : List ℕ) (reason : ℕ)
    → HaveSizes kind rhost rip ohost oip → HaveSizes kind rhost other_rip ohost other_oip
    → control_in (record_of kind rhost rip ohost oip reason)
    ≡ control_in (record_of kind rhost other_rip ohost other_oip reason)
control_unread kind rhost rip ohost oip other_rip other_oip reason sizes others =
    control_is kind rhost rip ohost oip reason sizes
    ∙ sym (control_is kind rhost other_rip ohost other_oip reason others)
