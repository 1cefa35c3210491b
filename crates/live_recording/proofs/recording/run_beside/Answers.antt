use denote.Param.Send.{sendable}
use Rattle.live_recording.proofs.recording.run_beside.Goals as goal

-- a search for all of it at once doesn't come to its end
pub join-requires-after_bounds : goal.join-requires-after_bounds
join-requires-after_bounds g c κs within =
    let needs = c.requires in
    let types = c.type_bounds in (
      (search (sendable, types.send-J.leaving), search (sendable, types.send-K.leaving), search (sendable, types.send-L-Extent.leaving), search (sendable, types.send-L-View.leaving), search (sendable, types.sync-J), search (sendable, types.sync-R), search (sendable, types.sync-L-Extent)),
      (
        needs.chunked,
        (
          needs.profile,
          (
            needs.few,
            (
              needs.ready,
              (
                needs.same_turn,
                (
                  needs.lanes,
                  (
                    needs.feeds,
                    (
                      needs.reports,
                      (
                        needs.limit,
                        (
                          needs.lossless,
                          (
                            needs.empty,
                            (
                              needs.last,
                              (search (sendable, types.send-J.leaving), search (sendable, types.send-S.leaving), search (sendable, types.send-L.leaving), search (sendable, types.send-L-Extent.leaving), search (sendable, types.send-L-View.leaving), search (sendable, types.sync-J), search (sendable, types.sync-R), search (sendable, types.sync-L-Extent)),
                            ),
                          ),
                        ),
                      ),
                    ),
                  ),
                ),
              ),
            ),
          ),
        ),
      ),
    )
