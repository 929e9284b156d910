-- What is told of lines as they are opened.
use Rattle.std.specs.Prelude.{◌≡◌, ◌≢◌, []}
use Rattle.std.specs.Net.Addr.{MatchIp, IsLoopbackV4, IsLoopbackV6}
use Rattle.std.specs.declared.net.ip_addr.IpAddr.{IpAddr}
use Rattle.njh_table.specs.TableFile.{NamedLine}

-- Anybody who reaches a line may sign on: it has a port on this address, which others than this machine reach, takes
-- connections from everywhere, and wants no password.
abbrev pub IsOpenToAll : NamedLine → IpAddr → Type 0
IsOpenToAll line address = (line.port ≢ 0)
    × ((line.from ≡ []) × ((line.entry.password ≡ []) × ¬ (MatchIp address IsLoopbackV4 IsLoopbackV6)))
