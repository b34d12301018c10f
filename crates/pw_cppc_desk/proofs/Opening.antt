-- The table at the start, and the steps by which the desk is opened.
use Rattle.std.proofs.Common.{◌≡◌, ◌≢◌, ⊎_elim, [], ◌∷◌, append_assoc, get_or, set, set-set, sym, refl, ap, ◌∙◌, subst, arith}
use Rattle.std.specs.Prelude.{Some, None}
use mathlib.Core.Option.{some, none}
use lib.ListN.{get_elem?}
use Rattle.atomic_table.specs.Table.{Allows, gives, step, takes}
use Rattle.atomic_table.proofs.Lists.{set_here}
use Rattle.pw_regs.specs.declared.registers.Registers.{Ghosts as Registers}
use Rattle.pw_cppc.specs.declared.entry.CppcEntry.{CppcEntry}
use Rattle.pw_books.specs.declared.view.View.{View}
use Rattle.pw_books.specs.Steps.{after, in_hand, in_place, let_go, release_without_entry, slot_back, slot_out}
use Rattle.pw_books.specs.Law.{first_view, opened}
use Rattle.pw_books.proofs.Lists.{at_set, bit_one, off}
use Rattle.pw_books.proofs.Facts.{live_holds, other_unmarked}
use Rattle.pw_books.specs.Machine.{holds, seat_number}
use Rattle.pw_books.proofs.Turns.{turn_is}
use Rattle.pw_cppc_desk.specs.Slots.{MayBe, seat_of}
use Rattle.pw_cppc_desk.specs.Rule.{Ruled, given_of, showing}
use Rattle.pw_cppc_desk.specs.Plays.{Tracked, opened_step}
use Rattle.pw_cppc_desk.specs.Tracks.{did}
use Rattle.pw_books.proofs.Ruled.{shows_start, shows_two}
use Rattle.pw_cppc_desk.specs.Moves.{DeskIsOpened, SlotIsClaimed, TableBegins}
use Rattle.pw_cppc_desk.proofs.Shown.{none_marked, shows, inv_of, view_at}

module _ {R : Type 0} (by : Registers R) where
  pub begins : TableBegins by
  begins key = shows_start (showing by key) opened first_view refl (1 ∷ 1 ∷ []) (some None ∷ []) refl
      record { free = λ z. absurd (omega (arith, z)); blank = λ j v at mark none. refl }

  -- the empty slot comes into the seat's hands
  pub claims : SlotIsClaimed by
  claims n key id m a b marked none-out s o wide me _ =
      let mach = o.machine in let i = inv_of by key s o in let Good = MayBe (given_of by key) in
      let at : get_elem? mach.views id ≡ some m.0.view = view_at by key s o id m.0 me in
      let turn = (i.opens id m.0.view at marked).turn in let w = in_hand m.0.view in let live = live_holds seat_of Good mach i id m.0.view at turn in (
        did slot_out w m.0,
        takes 0 None,
        o.home.blank id m.0.view at marked none-out,
        shows by key s o id m.0 slot_out w (set s.words 1 (get_or s.words 1 0)) (set s.homes 0 none) me live
            (turn, none-out) refl (ap (λ ws. set ws 1 (get_or ws 1 0)) o.words)
            record {
              free = λ z. absurd (omega (arith, z, turn_is seat_number mach.turn holds mach.views i.holder id m.0.view at (omega (arith, bit_one m.0.view.holds turn))));
              blank = λ y u there mark home. ⊎_elim
                  (λ (b : (y ≡ id) × (w ≡ u)). off u.out home (sym (ap (λ (x : View CppcEntry). x.out) b.1)))
                  (λ (b : (y ≢ id) × (get_elem? mach.views y ≡ some u)). absurd (other_unmarked seat_of Good mach i id y m.0.view u b.0 at b.1
                  (live_holds seat_of Good mach i id m.0.view at turn) mark))
                  (at_set mach.views id y w u there);
            },
        (refl, refl),
      )

  -- the value comes into its slot, with the operations of the start done, and the turn is released: two steps of the machine
  pub opens_desk : DeskIsOpened by
  opens_desk n key id x more ledger m slots is new = subst (λ (m : Tracked R). Allows (Ruled by key) n id m 1 (λ _. 0)
      (λ r. opened_step (by.faults ledger.regs) (step n 1 0 0 none) m r)) (sym is) (λ s o wide me _.
      let mach = o.machine in let i = inv_of by key s o in let count = by.faults ledger.regs in let Good = MayBe (given_of by key) in
      let v = x.view in let at : get_elem? mach.views id ≡ some v = view_at by key s o id x me in
      let op = i.opens id v at new.marked in let live = live_holds seat_of Good mach i id v at op.turn in
      let v2 = in_place v in let m2 = after seat_of mach id v slot_back in
      let w = let_go count v2 in
      let twice : set m2.views id w ≡ set mach.views id w = set-set mach.views id v2 w in (
        did (release_without_entry count) w (did slot_back v2 x),
        gives,
        tt,
        shows_two (showing by key) opened s.words s.homes s.views o id x me live slot_back (op.turn, new.out) v2 refl live
            (release_without_entry count) (op.turn, refl) w refl (set s.words 1 0) (set s.homes 0 (some (Some ledger))) (ap (λ ws. set ws 1 0) o.words)
            record {
              free = λ _. (ledger, set_here s.homes 0 (some (Some ledger)) (omega (arith, wide, slots)), new.held, new.entries ∙ sym op.empty);
              blank = λ y u there mark home. absurd (none_marked by key s o id v w at live refl y u
                  (subst (λ l. get_elem? l y ≡ some u) twice there) mark);
            },
        (refl, ap (λ l. (l, x.kept)) (append_assoc x.own (slot_back ∷ []) (release_without_entry count ∷ []))),
      ))
