-- A step that leaves the history and the number of views: what is to be shown of it.
use Rattle.std.proofs.Common.{◌≡◌, ◌≢◌, ℕ, ◌+◌, ◌<◌, ◌≤◌, List, true, Option, Some, get_or, set, ap, ◌∙◌, arith}
use mathlib.Core.Option.{some}
use lib.ListN.{get_elem?}
use Rattle.acpi_values.specs.declared.operation.Op.{Op}
use Rattle.pw_model.specs.Records.{Part}
use Rattle.pw_plan.specs.declared.plan.Plan.{Plan}
use Rattle.pw_machine.specs.declared.view.View.{View}
use Rattle.pw_books.specs.Books.{count_in}
use Rattle.pw_machine.specs.Machine.{Machine, now, count_held, holds, leads, marks, NotesWithin, Fits, HasTurns, IsOpening, HasValues, HasRegisters, Invariant, seat_number}
use Rattle.pw_books.specs.Sums.{total, bit, once_below}
use Rattle.pw_books.proofs.Lists.{set_each, total-set}
use Rattle.pw_books.proofs.Turns.{stays}
use Rattle.pw_machine.proofs.Facts.{other_unmarked}
use Rattle.pw_books.proofs.Changes.{at_most_more}

pub notes_more : (made made2 count count2 : ℕ) (first second read : Option ℕ) → made ≤ made2 → count ≤ count2
    → NotesWithin made count first second read → NotesWithin made2 count2 first second read
notes_more made made2 count count2 first second read a b n = record {
  at_take = at_most_more first count count2 b n.at_take;
  at_release = at_most_more second count count2 b n.at_release;
  at_read =
      at_most_more read made made2 a n.at_read;
}

-- the turns stay with those who have them
pub turns_stay : (P : Plan) (turns : List ℕ) (journal : ℕ) (views : List View) → HasTurns P turns journal views → (j : ℕ) (v w : View)
    → get_elem? views j ≡ some v → w.number ≡ v.number → w.held ≡ v.held → w.leads ≡ v.leads
    → HasTurns P turns journal (set views j w)
turns_stay P turns journal views h j v w at number held leads-w = record {
  wide = h.wide;
  holders = λ t low. stays seat_number (get_or turns t 0) (holds t) views (h.holders t low) j v w at number (ap (count_held t) held);
  leader = stays seat_number journal leads views h.leader j v w at number (ap bit leads-w);
}

-- the machine with these parts, and the view w at j
abbrev pub moved : Machine → ℕ → View → ℕ → List ℕ → ℕ → List Part → List Op → ℕ → Machine
moved m j w made turns journal values ops count = record m { made = made; turns = turns; journal = journal; values = values; ops = ops; count = count; views = set m.views j w }

pub record Change (m : Machine) (j : ℕ) (v w : View) (made : ℕ) (turns : List ℕ) (journal : ℕ) (values : List Part) (ops : List Op) (count : ℕ) : Type 0 where
  pub live : 0 < v.parts
  pub parts : w.parts ≡ v.parts
  pub books : (n : ℕ) → count_in n w.book + once_below n m.made ≡ count_in n v.book + once_below n made
  pub more : m.made ≤ made
  pub most : made ≤ 65536
  pub has_turns : HasTurns m.given.plan turns journal (set m.views j w)
  pub opens : w.mark ≡ true → IsOpening m.given m.history count j w
  pub has_values : HasValues m.given.plan (now m) turns values
  pub registers : total marks (set m.views j w) ≡ 0 → HasRegisters m.given m.history ops count
  pub risen : m.count ≤ count
  -- who else holds the journal found it so
  pub others : (u : View) → u.leads ≡ true → (k : ℕ) → k ≢ j → get_elem? m.views k ≡ some u → m.count ≡ count
  pub fits : Fits m.given.plan m.history made count w

pub changed : (m : Machine) (i : Invariant m) (j : ℕ) (v w : View) → get_elem? m.views j ≡ some v
    → (made : ℕ) (turns : List ℕ) (journal : ℕ) (values : List Part) (ops : List Op) (count : ℕ)
    → Change m j v w made turns journal values ops count → Invariant (moved m j w made turns journal values ops count)
changed m i j v w at made turns journal values ops count c = record {
  history = i.history;
  numbers = record {
    books = λ n. omega (arith, total-set (λ u. count_in n u.book) m.views j v w at, i.numbers.books n, c.books n);
    strangers = λ n h. i.numbers.strangers n (omega (arith, c.more));
    most = c.most;
  };
  turns = c.has_turns;
  opens = set_each (λ k u. u.mark ≡ true → IsOpening m.given m.history count k u) m.views j w c.opens
      (λ k u ne there mark. absurd (other_unmarked m i j k v u ne at there c.live mark));
  values = c.has_values;
  registers = c.registers;
  parts = omega (arith, total-set (λ u. u.parts) m.views j v w at, i.parts, c.parts);
  fits = set_each (λ k u. Fits m.given.plan m.history made count u) m.views j w c.fits (λ k u ne there. let g = i.fits k u there in record {
    reads = g.reads;
    own = g.own;
    serves = g.serves;
    holds_records = g.holds_records;
    slots = g.slots;
    leader = g.leader;
    found = λ h mark. g.found h mark ∙ ap Some (c.others u h k ne there);
    notes = notes_more m.made made m.count count u.at_lock u.at_unlock u.read c.more c.risen g.notes;
    spent = g.spent;
  });
}
