-- The turn is taken, or given back with one more entry or none.
use Rattle.std.proofs.Common.{◌≡◌, ◌≢◌, ◌-◌, [], ◌∷◌, ◌++◌, get_or, set, sym, refl, ap, ◌∙◌, subst, arith}
use Rattle.std.specs.Prelude.{Some}
use mathlib.Core.Option.{some, none}
use lib.ListN.{get_elem?}
use Rattle.atomic_table.specs.Table.{Allows, gives, keeps, step, takes}
use Rattle.atomic_table.proofs.Lists.{exchanged, set_here}
use Rattle.pw_regs.specs.declared.registers.Registers.{Ghosts as Registers}
use Rattle.pw_books.specs.Books.{Begins, Knows}
use Rattle.pw_books.specs.Steps.{Enters, entered, find_held, led, let_go, met_with, release_with_entry, release_without_entry, take_turn}
use Rattle.pw_books.proofs.Facts.{live_holds}
use Rattle.pw_books.proofs.Told.{is_told}
use Rattle.pw_cppc_desk.specs.Slots.{MayBe, seat_of}
use Rattle.pw_cppc_desk.specs.Rule.{Ruled, given_of}
use Rattle.pw_cppc_desk.specs.Plays.{Met, Tracked, gone_step, led_step, mine, put_step}
use Rattle.pw_cppc_desk.specs.Tracks.{did}
use Rattle.pw_cppc_desk.specs.Moves.{EntryIsMade, TurnIsLetGo, TurnIsTaken}
use Rattle.pw_cppc_desk.proofs.Shown.{Goes, held_may, none_marked, shows, inv_of, view_at}

module _ {R : Type 0} (by : Registers R) where
  pub takes_turn : TurnIsTaken by
  takes_turn n key id m new is idle s o wide me _ =
      let given = given_of by key in let then = led_step by given (step n 1 0 new none) m in
      let mach = o.machine in let i = inv_of by key s o in
      let at : get_elem? mach.views id ≡ some m.0.view = view_at by key s o id m.0 me in
      let f = i.fits id m.0.view at in let told = is_told seat_of (MayBe given) mach i id m.0.view at in
      let found : get_or s.words 1 0 ≡ mach.turn = ap (λ ws. get_or ws 1 0) o.words in
      exchanged (get_or s.words 1 0) 0 new (Goes by key s 1 id m then)
      (λ hit.
      let free : mach.turn ≡ 0 = sym found ∙ hit in let h = o.home.free free in let ledger = h.0 in
      let count = by.faults ledger.regs in let w = led mach.history count m.0.view in (
        did (take_turn count) w m.0,
        takes 0 (Some ledger),
        h.1,
        shows by key s o id m.0 (take_turn count) w (set s.words 1 new) (set s.homes 0 none) me idle.live (idle, free) refl
            (ap (λ ws. set ws 1 new) o.words ∙ ap (λ x. mach.made ∷ x ∷ []) is)
            record {
              free = λ z. absurd (omega (arith, z));
              blank = λ j u there mark home. absurd (none_marked by key s o id m.0.view w at idle.live idle.unmarked j u there mark);
            },
        (
          (
            (λ _. (
              ledger,
              record {
                is = ap (λ l. (led l count m.0.view, (0, Some ledger) ∷ m.1)) (sym h.3);
                held = h.2;
                seen = subst (λ l. Begins l m.0.view.seen) (sym h.3) f.reads.begins;
                book = subst (Knows seat_of m.0.view.book) (sym h.3) f.reads.lists;
                known = f.reads.entries;
                alone = λ e. (told.alone e).seen ∙ sym h.3;
              },
            )),
            λ miss. absurd (miss hit),
          ),
          (λ _. (count, refl)),
          λ miss. absurd (miss hit),
        ),
      ))
      (λ miss.
      let held : mach.turn ≢ 0 = λ z. miss (found ∙ z) in
      let other = told.met (idle, held) in let w = met_with (mach.turn - 1) m.0.view in (
        did find_held w m.0,
        keeps,
        tt,
        shows by key s o id m.0 find_held w (set s.words 1 (get_or s.words 1 0)) s.homes me idle.live (idle, held) refl
            (ap (λ ws. set ws 1 (get_or ws 1 0)) o.words)
            record {
              free = o.home.free;
              blank = λ j u there mark home. absurd (none_marked by key s o id m.0.view w at idle.live idle.unmarked j u there mark);
            },
        (
          (
            (λ hit. absurd (miss hit)),
            λ _. subst (λ x. Met (mine m) (x - 1) (w, m.1)) (sym found) (refl, other),
          ),
          (λ hit. absurd (miss hit)),
          λ _. refl,
        ),
      ))

  pub enters : EntryIsMade by
  enters n key id x more ledger e m slots is grown = subst (λ (m : Tracked R). Allows (Ruled by key) n id m 1 (λ _. 0)
      (λ r. put_step e (by.faults ledger.regs) (step n 1 0 0 none) m r)) (sym is) (λ s o wide me _.
      let mach = o.machine in let i = inv_of by key s o in let count = by.faults ledger.regs in let Good = MayBe (given_of by key) in
      let v = x.view in let at : get_elem? mach.views id ≡ some v = view_at by key s o id x me in
      let live = live_holds seat_of Good mach i id v at grown.turn in
      let history : ledger.entries ≡ mach.history ++ e ∷ [] = grown.entries ∙ ap (λ l. l ++ e ∷ []) ((i.fits id v at).leader grown.turn) in
      let may : Enters seat_of Good mach v e = record {
        turn = grown.turn;
        unmarked = grown.unmarked;
        back = grown.none_out;
        seat = grown.seat;
        good = subst Good history (held_may by (given_of by key) ledger grown.held);
      } in
      let w = entered seat_of e count v in (
        did (release_with_entry e count) w x,
        gives,
        tt,
        shows by key s o id x (release_with_entry e count) w (set s.words 1 0) (set s.homes 0 (some (Some ledger))) me live may refl
            (ap (λ ws. set ws 1 0) o.words)
            record {
              free = λ _. (ledger, set_here s.homes 0 (some (Some ledger)) (omega (arith, wide, slots)), grown.held, history);
              blank = λ y u there mark home. absurd (none_marked by key s o id v w at live grown.unmarked y u there mark);
            },
        (refl, refl),
      ))

  pub lets_go : TurnIsLetGo by
  lets_go n key id x more ledger m slots is same = subst (λ (m : Tracked R). Allows (Ruled by key) n id m 1 (λ _. 0)
      (λ r. gone_step (by.faults ledger.regs) (step n 1 0 0 none) m r)) (sym is) (λ s o wide me _.
      let mach = o.machine in let i = inv_of by key s o in let count = by.faults ledger.regs in let Good = MayBe (given_of by key) in
      let v = x.view in let at : get_elem? mach.views id ≡ some v = view_at by key s o id x me in
      let live = live_holds seat_of Good mach i id v at same.turn in let w = let_go count v in (
        did (release_without_entry count) w x,
        gives,
        tt,
        shows by key s o id x (release_without_entry count) w (set s.words 1 0) (set s.homes 0 (some (Some ledger))) me live
            (same.turn, same.none_out) refl (ap (λ ws. set ws 1 0) o.words)
            record {
              free = λ _. (
                ledger,
                set_here s.homes 0 (some (Some ledger)) (omega (arith, wide, slots)),
                same.held,
                same.entries ∙ (i.fits id v at).leader same.turn,
              );
              blank = λ y u there mark home. absurd (none_marked by key s o id v w at live refl y u there mark);
            },
        (refl, refl),
      ))
