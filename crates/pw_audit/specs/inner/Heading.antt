-- The line of a request up to what came of it, and the texts of the paths in it.
use Rattle.std.specs.Prelude.{◌≡◌, ℕ, List, length}
use Rattle.pw_text.specs.Behind.{asked_head}
use Rattle.pw_history.specs.Paths.{ArePaths}
use Rattle.pw_history.specs.Wording.{Wording}

module _ {Plan Request Reply Entry State : Type 0} (W : Wording Plan Request Reply Entry State) where
  -- of request n
  abbrev pub head_text : Plan → ℕ → Request → List ℕ
  head_text plan n q = asked_head n (W.path plan (W.cpu q)) (W.request_words q)

  -- the texts of all paths of the plan
  pub record AreAllPaths (plan : Plan) (texts : List (List ℕ)) : Type 0 where
    pub size : length texts ≡ W.cpus plan
    pub named : ArePaths W plan texts
