-- The numbers of requests for a performance, and of replies to them.
use Rattle.std.specs.Prelude.{◌==◌, ℕ, Option, Some, None, if◌then◌else◌}
use Rattle.pw_cppc.specs.declared.request.CppcRequest.{CppcRequest}
use Rattle.pw_cppc.specs.declared.request.CppcRequest.TheVariants.{Desired, Minimum, Maximum}
use Rattle.pw_cppc.specs.declared.reply.CppcReply.{CppcReply}
use Rattle.pw_cppc.specs.declared.reply.CppcReply.TheVariants.{Stands, NoTable, Unfit, OutOfRange, Crossed}
use Rattle.pw_embed.specs.declared.cppc_numbers.CppcReplyNumbers.{CppcReplyNumbers}
use Rattle.pw_embed.specs.declared.cppc_numbers.CppcRequestNumbers.{CppcRequestNumbers}

-- the request that numbers ask for, by their kind
abbrev pub request_in : CppcRequestNumbers → Option CppcRequest
request_in a =
    if a.kind == 1 then Some (Desired a.cpu a.value) else
    if a.kind == 2 then Some (Minimum a.cpu a.value) else
    if a.kind == 3 then Some (Maximum a.cpu a.value) else
    None

abbrev pub plain : ℕ → ℕ → ℕ → ℕ → CppcReplyNumbers
plain kind why value highest = record { kind = kind; why = why; value = value; highest = highest }

-- the numbers of a reply
abbrev pub numbers_of : CppcReply → CppcReplyNumbers
numbers_of (Stands value) = plain 1 0 value 0
numbers_of NoTable = plain 2 0 0 0
numbers_of (Unfit why) = plain 3 why 0 0
numbers_of (OutOfRange lowest highest) = plain 4 0 lowest highest
numbers_of (Crossed bound) = plain 5 0 bound 0
