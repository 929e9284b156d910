-- What a frame tells, whose text is lent.
use Rattle.njh_bisync.specs.Frames as grammar
use Rattle.njh_bisync.specs.Frames.{Received}
use Rattle.njh_bisync.specs.declared.frame.Frame.{Frame}
use Rattle.njh_bisync.specs.declared.frame.Frame.TheVariants.{Enquiry, Ack0, Nak, Eot, Text, Spoiled}

abbrev pub received_of : Frame → Received
received_of Enquiry = grammar.Enquiry
received_of Ack0 = grammar.Ack0
received_of Nak = grammar.Nak
received_of Eot = grammar.Eot
received_of (Text lent) = grammar.Text lent.now
received_of Spoiled = grammar.Spoiled
