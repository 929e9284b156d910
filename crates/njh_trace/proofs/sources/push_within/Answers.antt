use Rattle.std.proofs.Common.{◌<◌, ◌≤◌, length, ◌∙◌, rules}
use Rattle.njh_trace.specs.Sources.{max_sources}
use Rattle.njh_trace.proofs.SourceLaws.{taken-full, taken-room}
use Rattle.njh_trace.proofs.sources.push_within.Goals as goal

pub returns-in_ok-push-clause-sources : goal.returns-in_ok-push-clause-sources
returns-in_ok-push-clause-sources c =
    let room : length c.args.sources.now.items < max_sources = search rules in
    c.in_ok-push.ensures.items ∙ taken-room max_sources c.args.sources.now.items c.args.source room

pub returns-else-len-lt-MAX_SOURCES-clause-sources :
    goal.returns-else-len-lt-MAX_SOURCES-clause-sources
returns-else-len-lt-MAX_SOURCES-clause-sources c =
    let full : max_sources ≤ length c.args.sources.now.items = search rules in
    taken-full max_sources c.args.sources.now.items c.args.source c.requires full
