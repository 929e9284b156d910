use Rattle.njh_table.proofs.BucketLaws.{indexed_pushed}
use Rattle.njh_table.proofs.nodes.Nodes.insert.Goals as goal

pub invariant_of-self : goal.invariant_of-self
invariant_of-self c =
    indexed_pushed c.self.inside.names.items c.push-2.new.self.items c.self.inside.before.items c.push.new.self.items
    c.self.inside.ends c.bytes-name.result c.bucket_of-bucket.result c.len.result c.self.invariant c.self.told
    c.bucket_of-bucket.ensures.bucket c.bucket_of-bucket.ensures.within c.push-2.ensures.items c.push.ensures.items
    c.len.ensures.value
