use Rattle.std.proofs.Common.{◌≡◌, true, ℕ, Some, Option, replicate}
use Rattle.pw_books.specs.Steps.{find_held}
use Rattle.pw_cppc_desk.specs.Rule.{given_of}
use Rattle.pw_cppc_desk.specs.Plays.{mine}
use Rattle.pw_cppc_desk.specs.Asked.{no_entry}
use Rattle.pw_cppc_desk.specs.Tracks.{keeping, more}
use Rattle.pw_cppc_desk.specs.Steps.{MeetsOn, met_on}
use Rattle.pw_cppc_desk.specs.Views.{is_met}
use Rattle.pw_cppc_desk.proofs.desk.CppcDesk.wait.Given as goal

abbrev pub ghosts-lock : goal.ghosts-lock
ghosts-lock g a = record { given = Some (given_of g.R.Registers a.self.now.table.shared.key); entry = no_entry; count = 0 }

abbrev pub invariant-loop : goal.invariant-loop
invariant-loop g l = record {
  id : l.raw.table_id ≡ l.initial.raw.table_id;
  view : (holder : Option ℕ) × (count : ℕ) × (mine l.raw.me ≡ (met_on holder count l.initial.raw.me.0.view, l.initial.raw.me.1))
      × MeetsOn l.initial.raw.me.0.view holder count;
  own : (founds : ℕ) × (keeping l.raw.me.0 ≡ more (replicate founds find_held) (keeping l.initial.raw.me.0));
  met : is_met l.met l.raw.me.0.view ≡ true;
}
