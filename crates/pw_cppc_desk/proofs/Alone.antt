-- What the slot has where an idle seat has all parts.
use Rattle.std.proofs.Common.{◌≡◌, length, sym, ap, ◌∙◌, subst, arith}
use Rattle.std.specs.Prelude.{Some}
use mathlib.Core.Option.{some}
use mathlib.Core.Logic.{dite}
use native.Mathlib.Decide.{dec_le}
use lib.ListN.{get_elem?}
use Rattle.atomic_table.proofs.Lists.{at_map}
use Rattle.pw_regs.specs.declared.registers.Registers.{Ghosts as Registers}
use Rattle.pw_cppc.specs.declared.entry.CppcEntry.{CppcEntry}
use Rattle.pw_books.specs.Books.{Knows, entries_of}
use Rattle.pw_books.proofs.Told.{is_told}
use Rattle.pw_cppc_desk.specs.Slots.{MayBe, seat_of}
use Rattle.pw_cppc_desk.specs.Rule.{given_of}
use Rattle.pw_cppc_desk.proofs.Shown.{inv_of, view_at}
use Rattle.pw_cppc_desk.specs.Moves.{AloneHasAll, TableCloses}

module _ {R : Type 0} (by : Registers R) where
  pub alone_whole : AloneHasAll by
  alone_whole key s id x o me idle all =
      let m = o.machine in let i = inv_of by key s o in
      let v = x.view in let at : get_elem? m.views id ≡ some v = view_at by key s o id x me in
      let knows = (is_told seat_of (MayBe (given_of by key)) m i id v at).alone all in
      let h = o.home.free (knows.turn idle.no_turn) in
      record {
        ledger = h.0;
        there = h.1;
        held = h.2;
        seen = knows.seen ∙ sym h.3;
        book = subst (Knows seat_of v.book) (sym h.3) (i.fits id v at).reads.lists;
        seats = λ n some-entry. dite (dec_le m.made n)
            (λ le. absurd (omega (
              arith,
              some-entry,
              ap (λ l. length (entries_of seat_of n l)) h.3,
              ap (length {A = CppcEntry}) (i.numbers.strangers n le),
            )))
            (λ nle. knows.book n (omega arith));
      }

  pub closes : TableCloses by
  closes key id x ws xs f idle all =
      let w = alone_whole key f.0 id x f.1.0 f.1.1 idle all in record {
        ledger = w.ledger;
        there = at_map some xs 0 (Some w.ledger) (f.4 0 (Some w.ledger) w.there);
        held = w.held;
        seen = w.seen;
        book = w.book;
        seats = w.seats;
      }
