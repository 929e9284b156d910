use Rattle.std.proofs.Common.{refl}
use Rattle.njh_tcpwire.proofs.StepLaws.{told_by}
use Rattle.njh_tcpwire.proofs.connection.TcpConnectionConnection.say.Goals as goal

pub returns-clause-said : goal.returns-clause-said
returns-clause-said g c =
    told_by c.args.self.now c.tell.new.self c.args.saying _ refl c.tell.ensures.says c.tell.ensures.waits
