use Rattle.refusal_core.proofs.printing.refusal_line.Goals as goal

pub returns-in-BadCharacter : goal.returns-in-BadCharacter
returns-in-BadCharacter c = rw c.in-BadCharacter.is c.format-in-BadCharacter.ensures.ok

pub returns-in-TableLong : goal.returns-in-TableLong
returns-in-TableLong c = rw c.in-TableLong.is c.format-in-TableLong.ensures.ok

pub returns-in-NoTable : goal.returns-in-NoTable
returns-in-NoTable c = rw c.in-NoTable.is c.format-in-NoTable.ensures.ok

pub returns-in-LineLong : goal.returns-in-LineLong
returns-in-LineLong c = rw c.in-LineLong.is c.format-in-LineLong.ensures.ok

pub returns-in-Syntax : goal.returns-in-Syntax
returns-in-Syntax c = rw c.in-Syntax.is c.format-in-Syntax.ensures.ok

pub returns-in-NotHere : goal.returns-in-NotHere
returns-in-NotHere c = rw c.in-NotHere.is c.format-in-NotHere.ensures.ok

pub returns-in-Station : goal.returns-in-Station
returns-in-Station c = rw c.in-Station.is c.format-in-Station.ensures.ok

pub returns-in-NoFrame : goal.returns-in-NoFrame
returns-in-NoFrame c = rw c.in-NoFrame.is c.format-in-NoFrame.ensures.ok

pub returns-in-Early : goal.returns-in-Early
returns-in-Early c = rw c.in-Early.is c.format-in-Early.ensures.ok

pub returns-in-Frames : goal.returns-in-Frames
returns-in-Frames c = rw c.in-Frames.is c.format-in-Frames.ensures.ok

pub returns-in-TextLong : goal.returns-in-TextLong
returns-in-TextLong c = rw c.in-TextLong.is c.format-in-TextLong.ensures.ok

pub returns-in-FewWords : goal.returns-in-FewWords
returns-in-FewWords c = rw c.in-FewWords.is c.format-in-FewWords.ensures.ok

pub returns-in-Unlisted : goal.returns-in-Unlisted
returns-in-Unlisted c = rw c.in-Unlisted.is c.format-in-Unlisted.ensures.ok

pub returns-in-BadBlock : goal.returns-in-BadBlock
returns-in-BadBlock c = rw c.in-BadBlock.is c.format-in-BadBlock.ensures.ok

pub returns-in-Coarse : goal.returns-in-Coarse
returns-in-Coarse c = rw c.in-Coarse.is c.format-in-Coarse.ensures.ok

pub returns-in-Ahead : goal.returns-in-Ahead
returns-in-Ahead c = rw c.in-Ahead.is c.format-in-Ahead.ensures.ok

pub returns-in-Expired : goal.returns-in-Expired
returns-in-Expired c = rw c.in-Expired.is c.format-in-Expired.ensures.ok

pub returns-in-NoFile : goal.returns-in-NoFile
returns-in-NoFile c = rw c.in-NoFile.is c.format-in-NoFile.ensures.ok
