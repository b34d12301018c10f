-- The lists of the processors' requests.
use Rattle.std.specs.Prelude.{ℕ, List, Vec, length}
use Rattle.std.specs.declared.alloc.Global.{Global}
use Rattle.pw_books.specs.inner.Lists as any
use Rattle.pw_cppc.specs.declared.plan.CppcPlan.{CppcPlan}
use Rattle.pw_cppc.specs.declared.request.CppcRequest.{CppcRequest}
use Rattle.pw_cppc.specs.Requests.{Has}
use Rattle.pw_cppc_drive.specs.Lawful.{telling}

-- each has the requests of its processor among those asked, in their order
abbrev pub AreLists : List CppcRequest → ℕ → List (Vec CppcRequest Global) → Type 0
AreLists = any.AreLists telling

-- of some requests, whose processors the plan has
abbrev pub AreListsFor : CppcPlan → List (Vec CppcRequest Global) → Type 0
AreListsFor P = any.AreListsFor telling (Has P) (length P.cpus)
