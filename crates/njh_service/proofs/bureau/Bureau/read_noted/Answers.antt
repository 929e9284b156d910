use Rattle.njh_service.proofs.bureau.Bureau.read_noted.Goals as goal

-- what was read, and what is told of it
pub returns-clause-read : goal.returns-clause-read
returns-clause-read g c =
    (c.tables_read-told.new.self, c.tables_read-told.result, c.tables_read-told.ensures.read, c.note.ensures.noted)
