-- The lists of the processors' requests.
use Rattle.std.specs.Prelude.{◌≡◌, ◌<◌, ℕ, List, Vec, length, slice_index_or}
use Rattle.std.specs.List.{AllByRecursion}
use Rattle.std.specs.declared.alloc.Global.{Global}
use Rattle.pw_books.specs.Asked.{Telling, own}

module _ {E Q : Type 0} (T : Telling E Q) where
  -- each has the requests of its processor among those asked, in their order
  pub record AreLists (asked : List Q) (count : ℕ) (lists : List (Vec Q Global)) : Type 0 where
    pub sized : length lists ≡ count
    pub each : (p : ℕ) (d : Vec Q Global) → p < count → (slice_index_or lists p d).items ≡ own T p asked

  -- of some requests that all are so
  pub record AreListsFor (S : Q → Type 0) (count : ℕ) (lists : List (Vec Q Global)) : Type 0 where
    pub asked : List Q
    pub has : AllByRecursion S asked
    pub are : AreLists asked count lists
