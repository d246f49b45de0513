-- What a question says. Questions are lines of a grammar of their own, in the words of scripts.
use Rattle.std.specs.Prelude.{ℕ, ◌&&◌, nat_lt, Bool, true, false, if◌then◌else◌, List, [], ◌∷◌, length, codes, Option, None, Some, Result, Ok, Err}
use Rattle.std.specs.Option.{option_map}
use Rattle.std.specs.Str.{bytes_eq}
use Rattle.cam_refusals.specs.Limits.{line_limit}
use Rattle.cam_script.specs.declared.line.LineFault.{LineFault}
use Rattle.cam_script.specs.declared.line.LineFault.TheVariants.{LineTooLong, BadLine, Memory}
use Rattle.cam_script.specs.declared.question.Query.{Query}
use Rattle.cam_script.specs.declared.question.Query.TheVariants as queries
use Rattle.cam_script.specs.declared.question.Question.{Question}
use Rattle.cam_script.specs.declared.question.Question.TheVariants as questions
use Rattle.cam_script.specs.Items.{reads, reads_point}
use Rattle.cam_script.specs.Words.{words, is_name, count_in, alone}

-- at NAME X Y, or at NAME X Y BEFORE
abbrev pub at_query : List (List ℕ) → Option Query
at_query (x ∷ y ∷ []) = reads_point x y (λ at. Some (queries.At at None))
at_query (x ∷ y ∷ before ∷ []) =
    reads_point x y (λ at. reads count_in before (λ k. Some (queries.At at (Some k))))
at_query _ = None

-- in NAME X0 Y0 X1 Y1
abbrev pub in_query : List (List ℕ) → Option Query
in_query (x0 ∷ y0 ∷ x1 ∷ y1 ∷ []) =
    reads_point x0 y0 (λ from. reads_point x1 y1 (λ to. Some (queries.In from to)))
in_query _ = None

-- item NAME K
abbrev pub item_query : List (List ℕ) → Option Query
item_query (k ∷ []) = reads count_in k (λ k. Some (queries.Item k))
item_query _ = None

-- items NAME FROM COUNT
abbrev pub items_query : List (List ℕ) → Option Query
items_query (from ∷ count ∷ []) = reads count_in from (λ k. reads count_in count (λ n. Some (queries.Items k n)))
items_query _ = None

-- box NAME, or box NAME K
abbrev pub box_query : List (List ℕ) → Option Query
box_query [] = Some queries.Bounds
box_query (k ∷ []) = reads count_in k (λ k. Some (queries.ItemBounds k))
box_query _ = None

-- entry NAME I
abbrev pub entry_query : List (List ℕ) → Option Query
entry_query (i ∷ []) = reads count_in i (λ i. Some (queries.Entry i))
entry_query _ = None

-- what is asked of a layer, behind the layer's name
abbrev pub query_in : List ℕ → List (List ℕ) → Option Query
query_in verb rest =
    if bytes_eq verb (codes "at") then at_query rest
    else if bytes_eq verb (codes "in") then in_query rest
    else if bytes_eq verb (codes "item") then item_query rest
    else if bytes_eq verb (codes "items") then items_query rest
    else if bytes_eq verb (codes "box") then box_query rest
    else if bytes_eq verb (codes "entry") then entry_query rest
    else if bytes_eq verb (codes "entries") then alone queries.Entries rest
    else if bytes_eq verb (codes "attributes") then alone queries.Attributes rest
    else None

-- the name of the layer stands before what is asked
abbrev pub layer_question : List ℕ → List (List ℕ) → Option Question
layer_question verb [] = None
layer_question verb (name ∷ rest) =
    if is_name name then option_map (λ query. questions.OfLayer name query) (query_in verb rest) else None

abbrev pub question_in : List (List ℕ) → Option Question
question_in [] = None
question_in (verb ∷ rest) =
    if bytes_eq verb (codes "layers") then alone questions.Layers rest
    else if bytes_eq verb (codes "history") then alone questions.History rest
    else layer_question verb rest

-- a question that holds a name takes memory for it
abbrev pub asks_by_name : Question → Bool
asks_by_name questions.Layers = false
asks_by_name questions.History = false
asks_by_name (questions.OfLayer name query) = true

-- the question that was read; where it is one, its memory may be refused
abbrev pub unless_nameless : Option Question → Bool → Result Question LineFault
unless_nameless None no_memory = Err BadLine
unless_nameless (Some question) no_memory = if no_memory && asks_by_name question then Err Memory else Ok question

-- what a question says, or why it says nothing
abbrev pub asked : List ℕ → Bool → Result Question LineFault
asked line no_memory =
    if nat_lt line_limit (length line) then Err LineTooLong else unless_nameless (question_in (words line)) no_memory
