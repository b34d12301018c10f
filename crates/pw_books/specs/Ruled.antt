-- The rule of a table that shows a machine.
use Rattle.std.specs.Prelude.{◌≡◌, ℕ, ◌<◌, List, map}
use mathlib.Core.Option.{some}
use lib.ListN.{get_elem?}
use Rattle.pw_books.specs.Runs.{Steps, Turning}
use Rattle.pw_books.specs.Tracks.{AreKept, steps_of}
use Rattle.pw_books.specs.declared.track.Track.{Track}

-- What a table shows of a machine, whose slots at home are H: how many parts a view has, what a step is to the seat that takes it,
-- what the words are, and when the slots are at home.
pub record Showing (M V K H : Type 0) : Type 1 where
  pub turning : Turning M V K
  pub parts : V → ℕ
  pub own_kind : K → K
  pub words_of : M → List ℕ
  pub IsHome : M → H → Type 0

-- Allowed steps lead from this machine to one that the words, the views and the slots at home show. Of these steps each live seat's
-- own are those that it took, and those of each seat that was joined are in another's keeping.
pub record Shows {M V K H : Type 0} (S : Showing M V K H) (start : M) (ws : List ℕ) (hs : H) (ts : List (Track V K)) : Type 0 where
  pub machine : M
  pub run : List (ℕ × V × K)
  pub ran : Steps S.turning start run machine
  pub words : ws ≡ S.words_of machine
  pub views : map (λ (t : Track V K). t.view) ts ≡ S.turning.views machine
  pub own : (j : ℕ) (t : Track V K) → get_elem? ts j ≡ some t → 0 < S.parts t.view → t.own ≡ steps_of S.own_kind j run
  pub kept : AreKept S.own_kind run ts
  pub home : S.IsHome machine hs
