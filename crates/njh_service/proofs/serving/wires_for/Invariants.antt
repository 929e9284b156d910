use Rattle.std.proofs.Common.{◌≡◌, length, map, take}
use Rattle.njh_service.specs.Serving.{ArePlaced}
use Rattle.njh_service.proofs.serving.wires_for.Given as goal

-- a wire for each so far, with its place and its line's protocol
abbrev pub invariant-loop-place : goal.invariant-loop-place
invariant-loop-place g l = record {
  many : length l.wires.items ≡ l.place;
  places : ArePlaced l.wires.items;
  protocols : map (λ wire. wire.protocol) l.wires.items
      ≡ map (λ endpoint. endpoint.protocol) (take l.place l.endpoints);
}
