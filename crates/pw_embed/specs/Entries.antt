-- The numbers of entries of a history.
use Rattle.pw_model.specs.declared.entry.HistoryEntry.{HistoryEntry}
use Rattle.pw_embed.specs.declared.entries.EntryNumbers.{EntryNumbers}

abbrev pub entry_numbers : HistoryEntry → EntryNumbers
entry_numbers e = record {
  seat = e.seat;
  fault = e.fault;
  request = record { kind = e.code; cpu = e.cpu; argument = e.argument; tolerance = e.tolerance };
}
