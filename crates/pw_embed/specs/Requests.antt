-- The numbers of requests.
use Rattle.std.specs.Prelude.{◌==◌, Option, Some, None, if◌then◌else◌}
use Rattle.pw_plan.specs.declared.request.Request.{Request}
use Rattle.pw_plan.specs.declared.request.Request.TheVariants.{Idle, Wake, Perf, Throttle, PerfLimit, ThrottleLimit}
use Rattle.pw_embed.specs.declared.requests.RequestNumbers.{RequestNumbers}

-- the request that numbers ask for, by their kind
abbrev pub request_in : RequestNumbers → Option Request
request_in a =
    if a.kind == 1 then Some (Idle a.cpu a.argument a.tolerance) else
    if a.kind == 2 then Some (Wake a.cpu) else
    if a.kind == 3 then Some (Perf a.cpu a.argument) else
    if a.kind == 4 then Some (Throttle a.cpu a.argument) else
    if a.kind == 5 then Some (PerfLimit a.cpu a.argument) else
    if a.kind == 6 then Some (ThrottleLimit a.cpu a.argument) else
    None
