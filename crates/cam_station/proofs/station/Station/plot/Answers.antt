use Rattle.std.proofs.Common.{◌≡◌, ◌∙◌, Ok, rules, ap, arith, sym}
use Rattle.cam_edits.specs.Boards.{content_at}
use Rattle.cam_edits.specs.Sheets.{sheets_of}
use Rattle.cam_tiles.specs.Tables.{dirty_count, pbm_of}
use Rattle.cam_station.specs.declared.reply.Reply.TheVariants.{Bytes}
use Rattle.cam_station.specs.TileTables.{drawn}
use Rattle.cam_station.specs.Machine.{Granted, RefusedToStation, plot_step, refused}
use Rattle.cam_refusals.specs.declared.refusal.Refusal.TheVariants.{NoMemory}
use Rattle.cam_station.proofs.StationMoves.{seen}
use Rattle.cam_station.proofs.StationTiles.{layer_drawn, plot_made, plot_refused, station_drawn, table_there}
use Rattle.cam_station.proofs.station.Station.plot.Goals as goal
use Rattle.cam_station.proofs.station.Station.plot.Goals.{in-Ok, in-Err}

pub invariant_of-self : goal.invariant_of-self
invariant_of-self g c =
    let i = c.self.inside in
    let sheets = sheets_of i.board in
    let place = c.in-Some.place in
    let t = c.index_mut-raster.result.now in
    let content = content_at sheets place in
    let there = table_there i.history.depth i.window sheets i.rasters.items place t c.self.invariant.0 (search rules)
    c.in-Some.ensures.within c.index_mut-raster.ensures.value in
    let new : c.draw_watched-drawn.new.raster ≡ drawn content t = search rules in (
      station_drawn i.history.depth i.window sheets content i.rasters.items _ place c.self.invariant.0
          (layer_drawn content i.rasters.items place t c.draw_watched-drawn.new.raster there new),
      c.self.invariant.1,
      c.self.invariant.2,
    )

pub returns : goal.returns
returns g c =
    let i = c.self.inside in
    let sheets = sheets_of i.board in
    let place = c.in-Some.place in
    let name = c.args.name.now in
    let t = c.index_mut-raster.result.now in
    let content = content_at sheets place in
    let there = table_there i.history.depth i.window sheets i.rasters.items place t c.self.invariant.0 (search rules)
    c.in-Some.ensures.within c.index_mut-raster.ensures.value in
    let new : c.draw_watched-drawn.new.raster ≡ drawn content t = search rules in
    let tables = layer_drawn content i.rasters.items place t c.draw_watched-drawn.new.raster there new in
    let s = seen i.window i.history sheets i.rasters.items in
    elim c.match-to_pbm.branch [
      | in-Ok w ↦ (
          let count : w.from.result ≡ dirty_count t = omega (arith, w.from.ensures, c.draw_watched-drawn.ensures.count) in
          let file : w.from_vec.result ≡ pbm_of (drawn content t) =
          w.from_vec.ensures ∙ (w.in-Ok.ensures.bytes ∙ ap pbm_of new) in
          rw w.result-is
          (ap (λ s. plot_step s name Granted) (sym c.self.view_is)
          ∙ (plot_made s name place (sym c.in-Some.ensures.value) (search rules) t there w.from_vec.result w.from.result file count
          ∙ ap (λ tables. (seen i.window i.history sheets tables, Ok (Bytes w.from_vec.result w.from.result))) (sym tables)))
          )
      | in-Err w ↦ (
          rw (w.result-is, w.without_place-in-Err.ensures)
          (ap (λ s. plot_step s name RefusedToStation) (sym c.self.view_is)
          ∙ (plot_refused s name place (sym c.in-Some.ensures.value) (search rules)
          ∙ ap (λ tables. (seen i.window i.history sheets tables, refused NoMemory)) (sym tables)))
          )
    ]

pub returns-then-is_none : goal.returns-then-is_none
returns-then-is_none g c = grind (arith)

pub returns-in_default : goal.returns-in_default
returns-in_default g c = grind (arith)

pub index_mut-raster-requires : goal.index_mut-raster-requires
index_mut-raster-requires g c = grind (arith)
