-- What `make` writes: a summary of the lines of its workload that `link` acts on.
use Rattle.std.specs.Prelude.{◌≡◌, ◌≢◌, ℕ, ◌+◌, ◌-◌, ◌<◌, false, List, [], ◌∷◌, ◌++◌, length}
use Rattle.std.specs.Prelude.{map, fold, codes}
use Rattle.std.specs.Prelude.{Option, Some, None, decimal, slice_get, slice_index}
use Rattle.std.specs.Io.KnownBytes.{Appends}
use Rattle.fisb_wire.specs.Faults.{Rose}
use Rattle.uplink_weave.specs.Functions.{counts_in}
use Rattle.life_table.specs.LifeTable.{LifeTable, default_table}
use Rattle.life_table.specs.Products.{regional_radar}
use Rattle.radar_core.specs.declared.key.BlockKey.{BlockKey}
use Rattle.ground_core.specs.Airing.{Frame}
use Rattle.receiver_core.specs.Reception.{Reception, received_picture}
use Rattle.script_core.specs.Script.{Line, text, radar, blank, turn, hear, show}
use Rattle.refusal_core.specs.Refusal.{line_of_words}
use Rattle.refusal_core.specs.declared.reason.Reason.{Reason}
use Rattle.run_core.specs.declared.status.Status.{Status}
use Rattle.run_core.specs.declared.status.Status.TheVariants.{Done, Usage, Refused, ReadFault}
use Rattle.run_core.specs.declared.status.Status.TheVariants.{WriteFault, TooLong, NoMemory}
use Rattle.run_core.specs.Run.{SinkEnd, AppendsFront}
use Rattle.workload.specs.declared.step.Step.{Step}
use Rattle.workload.specs.declared.step.Step.TheVariants as steps
use Rattle.workload.specs.Hearings.{frame_with_changes as changed_frame}
use Rattle.workload.specs.Workload.{workload}
use Rattle.fisb_app.specs.declared.party.Party.TheVariants.{Link}
use Rattle.fisb_app.specs.declared.counts.Counts.{Counts}
use Rattle.fisb_app.specs.Past.{sent_frames, receptions, air_of, air_heard, reception_from}
use Rattle.fisb_app.specs.Reading.{refusal_of}

-- each byte that is heard where something was added to a frame, at its place
abbrev pub wrong_bytes : List (ℕ × ℕ) → List ℕ → List (ℕ × ℕ)
wrong_bytes changes heard = map (λ change. (change.0, slice_index heard change.0)) changes

abbrev pub wrong_in : List (ℕ × ℕ) → Option Frame → List (ℕ × ℕ)
wrong_in changes None = []
wrong_in changes (Some frame) = wrong_bytes changes (changed_frame changes (air_of frame))

-- the number of the frame that was sent last
abbrev pub last_number : List Frame → ℕ
last_number sent = length sent - 1

abbrev pub last_frame : List Frame → Option Frame
last_frame sent = slice_get sent (last_number sent)

-- a block of regional radar, scale 0, north
abbrev pub block_named : ℕ → BlockKey
block_named number = record { product = regional_radar; scale = 0; south = false; number = number }

-- the line that a step is, where these frames were sent before it
abbrev pub step_line : List Frame → Step → Line
step_line sent (steps.Text moment chars) = text moment moment chars
step_line sent (steps.Block moment number cells) = radar moment moment (block_named number) cells
step_line sent (steps.Blanks moment numbers) = blank moment moment regional_radar 0 false numbers
step_line sent (steps.Turn moment slot) = turn moment slot
step_line sent (steps.Hear moment changes) =
    hear moment (last_number sent) (wrong_in changes (last_frame sent))
step_line sent (steps.Show moment) = show moment

-- a line is acted on unless a reason stands against it
abbrev pub acted_unless : Option Reason → Line → List Line → List Line
acted_unless None line acted = line ∷ acted
acted_unless (Some reason) line acted = acted

abbrev pub acted_by : LifeTable → List Line → Line → List Line
acted_by table acted line = acted_unless (refusal_of Link table acted line) line acted

-- the lines acted on after a step, and after steps, the newest first
unfoldable pub after_step : LifeTable → List Line → Step → List Line
after_step table acted step = acted_by table acted (step_line (sent_frames table acted) step)

unfoldable pub after_steps : LifeTable → List Line → List Step → List Line
after_steps table acted [] = acted
after_steps table acted (step ∷ steps) = after_steps table (after_step table acted step) steps

-- how much a line adds, and what all of them add up to
abbrev pub Share : Type 0
Share = LifeTable → List Line → Line → ℕ

abbrev pub total : Share → LifeTable → List Line → ℕ
total share table [] = 0
total share table (line ∷ past) = total share table past + share table past line

-- an update is a text, a block, or blocks that are blank
abbrev pub updates_by : Share
updates_by table past (text moment version chars) = 1
updates_by table past (radar moment version key cells) = 1
updates_by table past (blank moment version product scale south numbers) = 1
updates_by table past line = 0

-- the bytes that were corrected in a frame, if it was received
abbrev pub corrected_bytes : Option Reception → List ℕ → ℕ
corrected_bytes None air = 0
corrected_bytes (Some reception) air = fold (λ sum count. sum + count) 0 (counts_in air)

abbrev pub corrected_in : List Reception → ℕ → List (ℕ × ℕ) → Option Frame → ℕ
corrected_in past moment wrong None = 0
corrected_in past moment wrong (Some frame) =
    let heard = air_heard wrong (air_of frame) in
    corrected_bytes (reception_from past moment heard) heard

abbrev pub corrected_by : Share
corrected_by table past (hear moment frame wrong) =
    corrected_in (receptions table past) moment wrong (slice_get (sent_frames table past) frame)
corrected_by table past line = 0

-- the entries of a picture
abbrev pub entries_by : Share
entries_by table past (show moment) =
    length (received_picture table (receptions table past) moment)
entries_by table past line = 0

-- The numbers of a summary. A frame is sent in each turn.
abbrev pub counts_of : LifeTable → List Line → Counts
counts_of table acted = record {
  updates = total updates_by table acted;
  turns = length (sent_frames table acted);
  heard = length (receptions table acted);
  corrected = total corrected_by table acted;
  entries = total entries_by table acted;
}

-- a frame that was sent and not received is lost
abbrev pub summary_text : ℕ → ℕ → Counts → List ℕ
summary_text count seed counts =
    line_of_words (codes "make" ∷ decimal count ∷ decimal seed
    ∷ codes "updates" ∷ decimal counts.updates
    ∷ codes "turns" ∷ decimal counts.turns ∷ codes "heard" ∷ decimal counts.heard ∷ codes "lost"
    ∷ decimal (counts.turns - counts.heard) ∷ codes "corrected" ∷ decimal counts.corrected
    ∷ codes "entries" ∷ decimal counts.entries ∷ [])

-- the summary of so many minutes from a seed, under the default table
unfoldable pub summary : ℕ → ℕ → List ℕ
summary count seed = summary_text count seed
    (counts_of default_table (after_steps default_table [] (workload count seed)))

-- The summary was written, and no write failed; or a write failed, after a prefix of it; or memory
-- was not found, and nothing was written.
abbrev pub HasMade : ℕ → ℕ → SinkEnd → SinkEnd → Status → Type 0
HasMade count seed old new Done =
    Appends old.written new.written (summary count seed) × (new.writes ≡ old.writes)
HasMade count seed old new Usage = ⊥
HasMade count seed old new (Refused line why) = ⊥
HasMade count seed old new ReadFault = ⊥
HasMade count seed old new WriteFault = Rose old.writes new.writes
    × AppendsFront old.written new.written (summary count seed)
HasMade count seed old new TooLong = ⊥
HasMade count seed old new NoMemory = (new.written ≡ old.written) × (new.writes ≡ old.writes)

-- Where the sink tells what it holds and surely takes more bytes than these and the summary, no
-- write failed: the summary was written, or memory was not found.
abbrev pub IsMadeWhole : ℕ → ℕ → Option ℕ → SinkEnd → Status → Type 0
IsMadeWhole count seed reach old status = (before : List ℕ) (room : ℕ)
    → old.written ≡ Some before → reach ≡ Some room → length (before ++ summary count seed) < room
    → status ≢ WriteFault
