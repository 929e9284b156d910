use Rattle.std.proofs.Common.{◌≡◌, ◌+◌, ◌*◌, ◌≤◌, take}
use Rattle.njh_sites.specs.Handles.{handles_needed}
use Rattle.njh_sites.proofs.handles.handles_needed.Given as goal

-- the handles of the lines so far, two each at most
abbrev pub invariant-loop-endpoint : goal.invariant-loop-endpoint
invariant-loop-endpoint l =
    (l.needed ≡ handles_needed (take l.endpoint-index l.endpoints)) × (l.needed ≤ 15 + 2 * l.endpoint-index)
