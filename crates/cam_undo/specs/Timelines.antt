-- What kept groups mean: played in turn, they lead to the machine's documents.
use Rattle.cam_edits.specs.declared.reversible.Reversible.{Ghosts}
use Rattle.circular_buffer.specs.Buffer.{keep_last, last_item}
use Rattle.cam_undo.specs.Kept.{Kept}
use Rattle.cam_undo.specs.Machine.{Timeline, all_but_last}
use Rattle.std.specs.Prelude.{◌≡◌, ℕ, List, None, Option, Some, [], length, ◌++◌, ◌∷◌}

module _ {S D : Type 0} (r : Ghosts S D) where
  -- the content once a group is played, its last step first
  abbrev pub after_group : List S → r.Content → r.Content
  after_group [] c = c
  after_group (step ∷ later) c = r.after step (after_group later c)

  -- each step fits when its turn comes
  abbrev pub GroupFits : List S → r.Content → Type 0
  GroupFits [] c = Unit {0}
  GroupFits (step ∷ later) c = GroupFits later c × r.is_fit step (after_group later c)

  -- the answers, in the order of the plays
  abbrev pub answers : List S → r.Content → List S
  answers [] c = []
  answers (step ∷ later) c = answers later c ++ r.inverse step (after_group later c) ∷ []

  -- the content once all groups are played, the last group first
  abbrev pub after_groups : List (List S) → r.Content → r.Content
  after_groups [] c = c
  after_groups (group ∷ later) c = after_group group (after_groups later c)

  -- the contents on that way, the first one reached last
  abbrev pub contents : List (List S) → r.Content → List r.Content
  contents [] c = []
  contents (group ∷ later) c = after_group group (after_groups later c) ∷ contents later c

  -- each group fits when its turn comes
  abbrev pub GroupsFit : List (List S) → r.Content → Type 0
  GroupsFit [] c = Unit {0}
  GroupsFit (group ∷ later) c = GroupsFit later c × GroupFits group (after_groups later c)

  -- the content where the open group began, or this one
  abbrev pub start_of : Option (List S) → r.Content → r.Content
  start_of None c = c
  start_of (Some group) c = after_group group c

  -- the answers of the open group
  abbrev pub open_answers : Option (List S) → r.Content → List S
  open_answers None c = []
  open_answers (Some group) c = answers group c

  -- a group, where there is one, fits and leads to a content
  abbrev pub GroupLeads : Option (List S) → r.Content → r.Content → Type 0
  GroupLeads None c reached = Unit {0}
  GroupLeads (Some group) c reached = GroupFits group c × (after_group group c ≡ reached)

  abbrev pub OpenFits : Option (List S) → r.Content → Type 0
  OpenFits None c = Unit {0}
  OpenFits (Some group) c = GroupFits group c

  abbrev pub group_of : Option (List S) → r.Content → Option (r.Content × ℕ)
  group_of None c = None
  group_of (Some group) c = Some (after_group group c, length group)

  -- A history and a document are tied where the open group, and from its beginning the past and the future, played
  -- in turn all fit.
  pub record Fits (kept : Kept S) (c : r.Content) : Type 0 where
    pub group : OpenFits kept.open_group c
    pub past : GroupsFit kept.past (start_of kept.open_group c)
    pub future : GroupsFit kept.future (start_of kept.open_group c)

  abbrev pub IsTied : Kept S → D → Type 0
  IsTied kept doc = Fits kept (r.content doc)

  -- the machine's timeline that the kept groups stand for
  abbrev pub timeline_at : Kept S → r.Content → Timeline r.Content
  timeline_at kept c = record {
    document = c;
    past = contents kept.past (start_of kept.open_group c);
    future = contents kept.future (start_of kept.open_group c);
    group = group_of kept.open_group c;
  }

  abbrev pub timeline_of : Kept S → D → Timeline r.Content
  timeline_of kept doc = timeline_at kept (r.content doc)

  -- What each call makes of the groups.

  abbrev pub with_answer : S → Kept S → Option (List S) → Kept S
  with_answer answer kept None = record {
    depth = kept.depth;
    past = keep_last kept.depth (kept.past ++ (answer ∷ []) ∷ []);
    future = [];
    open_group = None;
  }
  with_answer answer kept (Some group) = record {
    depth = kept.depth;
    past = kept.past;
    future = [];
    open_group = Some (group ++ answer ∷ []);
  }

  -- the answer joins the open group, or is a group of its own
  abbrev pub with_step : S → r.Content → Kept S → Kept S
  with_step step c kept = with_answer (r.inverse step c) kept kept.open_group

  abbrev pub with_group_open : Kept S → Kept S
  with_group_open kept = record { depth = kept.depth; past = kept.past; future = kept.future; open_group = Some [] }

  abbrev pub with_group_closed : Kept S → Kept S
  with_group_closed kept = record { depth = kept.depth; past = kept.past; future = kept.future; open_group = None }

  abbrev pub ended_by : Kept S → Option (List S) → Kept S
  ended_by kept None = kept
  ended_by kept (Some []) = with_group_closed kept
  ended_by kept (Some (step ∷ later)) = record {
    depth = kept.depth;
    past = keep_last kept.depth (kept.past ++ (step ∷ later) ∷ []);
    future = kept.future;
    open_group = None;
  }

  -- the open group joins the past, unless it is empty
  abbrev pub with_group_ended : Kept S → Kept S
  with_group_ended kept = ended_by kept kept.open_group

  abbrev pub undone_by : r.Content → Kept S → Option (List S) → Kept S
  undone_by c kept None = kept
  undone_by c kept (Some group) = record {
    depth = kept.depth;
    past = all_but_last kept.past;
    future = kept.future ++ answers group c ∷ [];
    open_group = kept.open_group;
  }

  -- the latest group of the past was played, and its answers lead on
  abbrev pub with_last_undone : r.Content → Kept S → Kept S
  with_last_undone c kept = undone_by c kept (last_item kept.past)

  abbrev pub redone_by : r.Content → Kept S → Option (List S) → Kept S
  redone_by c kept None = kept
  redone_by c kept (Some group) = record {
    depth = kept.depth;
    past = kept.past ++ answers group c ∷ [];
    future = all_but_last kept.future;
    open_group = kept.open_group;
  }

  -- the next group of the future was played, and its answers lead back
  abbrev pub with_last_redone : r.Content → Kept S → Kept S
  with_last_redone c kept = redone_by c kept (last_item kept.future)
