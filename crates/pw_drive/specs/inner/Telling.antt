-- What workers' laws ask of entries and requests.
use Rattle.pw_plan.specs.declared.request.Request.{Request}
use Rattle.pw_plan.specs.Requests.{cpu_of}
use Rattle.pw_model.specs.declared.entry.HistoryEntry.{HistoryEntry}
use Rattle.pw_model.specs.History.{request_of}
use Rattle.pw_machine.specs.Machine.{seat_of}
use Rattle.pw_books.specs.Asked.{Telling}

-- what is told of an entry and of a request
abbrev pub telling : Telling HistoryEntry Request
telling = record { seat = seat_of; request = request_of; fault = λ e. e.fault; cpu = cpu_of }
