-- The lists of the processors' requests.
use Rattle.std.specs.Prelude.{ℕ, List, Vec, length}
use Rattle.std.specs.declared.alloc.Global.{Global}
use Rattle.pw_plan.specs.declared.plan.Plan.{Plan}
use Rattle.pw_plan.specs.declared.request.Request.{Request}
use Rattle.pw_plan.specs.Requests.{Has}
use Rattle.pw_books.specs.inner.Lists as any
use Rattle.pw_drive.specs.inner.Telling.{telling}

-- each has the requests of its processor among those asked, in their order
abbrev pub AreLists : List Request → ℕ → List (Vec Request Global) → Type 0
AreLists = any.AreLists telling

-- of some requests, whose processors the plan has
abbrev pub AreListsFor : Plan → List (Vec Request Global) → Type 0
AreListsFor P = any.AreListsFor telling (Has P) (length P.cpus)
