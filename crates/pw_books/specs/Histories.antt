-- Which histories come about: exactly those of which each beginning may be, and whose seats have numbers.
use Rattle.std.specs.Prelude.{◌≡◌, ◌↔◌, ℕ, ◌<◌, List, []}
use Rattle.std.specs.List.{AllByRecursion}
use Rattle.pw_books.specs.declared.view.View.{View}
use Rattle.pw_books.specs.Books.{Begins}
use Rattle.pw_books.specs.Machine.{Machine}
use Rattle.pw_books.specs.Steps.{Kind}
use Rattle.pw_books.specs.Law.{opened, Steps}

module _ {E : Type 0} (seat_of : E → ℕ) (Good : List E → Type 0) where
  -- some list of allowed steps leads to the history
  pub record ComesAbout (history : List E) : Type 0 where
    pub steps : List (ℕ × View E × Kind E)
    pub end : Machine E
    pub allowed : Steps seat_of Good opened steps end
    pub ends : end.history ≡ history

  pub record MayComeAbout (history : List E) : Type 0 where
    pub beginnings : (es : List E) → Begins history es → Good es
    pub numbers : AllByRecursion (λ e. seat_of e < 65536) history

  abbrev pub HistoriesComeAbout : Type 0
  HistoriesComeAbout = Good [] → (history : List E) → ComesAbout history ↔ MayComeAbout history
