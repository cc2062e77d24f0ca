-- The tables that are lent with a group to look at, as one.
use Rattle.srt_group_shown.specs.Tables.{Tables, tables}
use Rattle.srt_group_refusals.specs.declared.refusals.LentGroup.{LentGroup}

abbrev pub tables_of : LentGroup → Tables
tables_of l = tables l.members.now l.pending.now l.waiting.now l.history.now l.sources.now
