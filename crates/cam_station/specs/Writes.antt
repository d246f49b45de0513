-- Writes: each answers the canonical text of a layer as it then is, and that text loads as the layer again.
use Rattle.std.specs.Prelude.{◌≡◌, ℕ, ◌<◌, List, [], ◌∷◌, ◌++◌, length, None, Some, Ok}
use Rattle.cam_tiles.specs.declared.window.Window.{Window}
use Rattle.cam_script.specs.declared.command.Command.TheVariants.{Load, Write}
use Rattle.cam_station.specs.declared.reply.Numbers.TheVariants.{One}
use Rattle.cam_station.specs.declared.reply.Reply.{Reply}
use Rattle.cam_station.specs.declared.reply.Reply.TheVariants.{Bytes, Numbers}
use Rattle.cam_edits.specs.Boards.{place_named}
use Rattle.cam_edits.specs.Sheets.{Content, item_count, sheet}
use Rattle.cam_station.specs.Documents.{content_named, picture_named}
use Rattle.cam_station.specs.Limits.{layer_limit}
use Rattle.cam_station.specs.Machine.{State, MemoryGrant, Granted, fresh}
use Rattle.cam_station.specs.Meanings.{meaning_of}
use Rattle.cam_station.specs.Calls.{Call, answer_to, state_after, states_after}
use Rattle.cam_station.specs.Writing.{kind_of, text_of}

-- The reply is the canonical text of the layer of this name in the document, and as a file of the layer's kind that
-- text means the layer.
pub record IsWriteOf (s : State) (name : List ℕ) (reply : Reply) : Type 0 where
  pub content : Content
  pub named : content_named name s.timeline.document ≡ Some content
  pub answered : reply ≡ Bytes (text_of content) 0
  pub read_back : meaning_of (kind_of content) (text_of content) ≡ Ok content

-- exact write: after any list of commands, each accepted write answers the text of the layer as it then is
abbrev pub ExactWrite : Type 0
ExactWrite = (depth : ℕ) (before : List Call) (name : List ℕ) (memory : MemoryGrant) (reply : Reply) →
    let s = states_after (fresh depth) before in answer_to s (Write name, memory) ≡ Ok reply → IsWriteOf s name reply

-- a write of the layer of this name, which holds this content, answers these bytes
pub record IsWritten (s : State) (name : List ℕ) (content : Content) (bytes : List ℕ) : Type 0 where
  pub named : content_named name s.timeline.document ≡ Some content
  pub memory : MemoryGrant
  pub drawn : ℕ
  pub answered : answer_to s (Write name, memory) ≡ Ok (Bytes bytes drawn)

-- a load of these bytes under this name, as a file of the content's kind
abbrev pub load_of : List ℕ → Content → List ℕ → MemoryGrant → Call
load_of name content bytes memory = (Load name (kind_of content) bytes, memory)

-- A layer of this name and of this content was added, which has the same picture in every window as the layer that was
-- written.
pub record AddsAgain (s : State) (name : List ℕ) (content : Content) (there after : State) (other : List ℕ)
    : Type 0 where
  pub added : after.timeline.document ≡ there.timeline.document ++ sheet other content ∷ []
  pub named : content_named other after.timeline.document ≡ Some content
  pub pictures : (w : Window) → picture_named w other after.timeline.document ≡ picture_named w name s.timeline.document

-- An accepted load, in any state, of what a write answered adds the layer again as it was when it was written.
abbrev pub WrittenLoadsAgain : Type 0
WrittenLoadsAgain = (depth : ℕ) (before : List Call) (name : List ℕ) (content : Content) (bytes : List ℕ) →
    let s = states_after (fresh depth) before in IsWritten s name content bytes
    → (there : State) (other : List ℕ) (memory : MemoryGrant) (reply : Reply)
    → answer_to there (load_of other content bytes memory) ≡ Ok reply
    → AddsAgain s name content there (state_after there (load_of other content bytes memory)) other

-- Such a load is accepted, where no group is open, under each name that is free, where there is room for a layer and
-- memory is not refused.
abbrev pub WrittenIsAccepted : Type 0
WrittenIsAccepted = (depth : ℕ) (before : List Call) (name : List ℕ) (content : Content) (bytes : List ℕ)
    → IsWritten (states_after (fresh depth) before) name content bytes
    → (there : State) (other : List ℕ) → there.timeline.group ≡ None → place_named other there.timeline.document ≡ None
    → length there.timeline.document < layer_limit
    → answer_to there (load_of other content bytes Granted) ≡ Ok (Numbers (One (item_count content)))
