-- A step that leaves the history and the number of views: what is to be shown of it.
use Rattle.std.proofs.Common.{◌≡◌, ℕ, ◌+◌, ◌<◌, ◌≤◌, List, true, Option, Some, None, set, arith}
use mathlib.Core.Option.{some}
use lib.ListN.{get_elem?}
use Rattle.pw_books.specs.declared.view.View.{View}
use Rattle.pw_books.specs.Books.{count_in}
use Rattle.pw_books.specs.Machine.{Machine, NamesHolder, Fits, IsOpening, Invariant}
use Rattle.pw_books.specs.Sums.{once_below, AtMost}
use Rattle.pw_books.proofs.Lists.{set_each, total-set}
use Rattle.pw_books.proofs.Facts.{other_unmarked}

pub at_most_more : (o : Option ℕ) (a b : ℕ) → a ≤ b → AtMost o a → AtMost o b
at_most_more None a b le h = tt
at_most_more (Some k) a b le h = omega (arith, h)

module _ {E : Type 0} where
  -- the machine with these numbers, and the view w at j
  abbrev pub moved : Machine E → ℕ → View E → ℕ → ℕ → Machine E
  moved m j w made turn = record m { made = made; turn = turn; views = set m.views j w }

module _ {E : Type 0} (seat_of : E → ℕ) (Good : List E → Type 0) where
  pub record Change (m : Machine E) (j : ℕ) (v w : View E) (made turn : ℕ) : Type 0 where
    pub live : 0 < v.parts
    pub parts : w.parts ≡ v.parts
    pub books : (n : ℕ) → count_in n w.book + once_below n m.made ≡ count_in n v.book + once_below n made
    pub more : m.made ≤ made
    pub most : made ≤ 65536
    pub holder : NamesHolder turn (set m.views j w)
    pub opens : w.mark ≡ true → IsOpening m.history j w
    pub fits : Fits seat_of m.history made w

  pub changed : (m : Machine E) (i : Invariant seat_of Good m) (j : ℕ) (v w : View E) → get_elem? m.views j ≡ some v → (made turn : ℕ)
      → Change m j v w made turn → Invariant seat_of Good (moved m j w made turn)
  changed m i j v w at made turn c = record {
    good = i.good;
    numbers = record {
      books = λ n. omega (arith, total-set (λ u. count_in n u.book) m.views j v w at, i.numbers.books n, c.books n);
      strangers = λ n h. i.numbers.strangers n (omega (arith, c.more));
      most = c.most;
    };
    holder = c.holder;
    opens = set_each (λ k u. u.mark ≡ true → IsOpening m.history k u) m.views j w c.opens
        (λ k u ne there mark. absurd (other_unmarked seat_of Good m i j k v u ne at there c.live mark));
    parts = omega (arith, total-set (λ u. u.parts) m.views j v w at, i.parts, c.parts);
    fits = set_each (λ k u. Fits seat_of m.history made u) m.views j w c.fits (λ k u ne there. let g = i.fits k u there in record {
      reads = g.reads;
      own = g.own;
      slot = g.slot;
      leader = g.leader;
      at_read = at_most_more u.read m.made made c.more g.at_read;
      spent = g.spent;
    });
  }

pub at_most_le : (o : Option ℕ) (k n : ℕ) → AtMost o k → k ≤ n → AtMost o n
at_most_le None k n a le = tt
at_most_le (Some r) k n a le = omega (arith, a, le)
